-- The first record of a line, as it is read from memory.
use Rattle.std.proofs.Common.{◌≡◌, inl, inr, ℕ, List, [], ◌∷◌, ◌++◌, Bool, Option, Some, None}
use Rattle.std.proofs.Common.{length, refl, subst, ◌∙◌, arith}
use Rattle.std.specs.Prelude.{IfSome, IsNone, MatchOption, false}
use Rattle.csv.specs.Records.{field_at}
use Rattle.phone_csv.specs.Firsts.{IsHead, IsOnly}
use Rattle.phone_csv.specs.Formats.{Record, state_of}
use Rattle.phone_csv.specs.Runs.{OfRead}
use Rattle.phone_csv.specs.declared.cutter.Start.{Start}
use Rattle.phone_device.specs.Passing.{IsAtEnd}
use Rattle.phone_device.proofs.PassingLemmas.{Passes-all}
use Rattle.phone_commands.specs.Pairs.{HasRecord, IsNoPair, IsPair, field_in, has_tab}
use Rattle.phone_commands.specs.Pairs.IsNoPair.{other}

-- what is read to the end of a line is the line
pub of_all : (line : List ℕ) (after : Option (List ℕ)) (holds : List ℕ → Type 0) →
    IsAtEnd after → OfRead (Some line) after holds → holds line
of_all line after holds end read =
    subst holds (Passes-all (Some line) after read.0 read.1 end) read.2

-- a first record that is read is one
pub read-record : (line : List ℕ) (after : Option (List ℕ)) (fields : Record) (has_mark : Bool)
    (rest : Option Start) →
    IfSome rest (λ start. OfRead (Some line) after
    (λ bytes. IsHead 44 bytes fields (state_of start.place) start.feeds has_mark)) →
    (IsNone rest → OfRead (Some line) after (λ bytes. IsOnly 44 bytes fields has_mark)) →
    (IsNone rest → IsAtEnd after) → HasRecord line fields
read-record line after fields has_mark (Some start) head only end =
    inl (head.0, head.1.0, state_of start.place, start.feeds, has_mark, head.1.1, head.2)
read-record line after fields has_mark None head only end =
    inr (
      has_mark,
      of_all line after (λ bytes. IsOnly 44 bytes fields has_mark) (end refl)
          (only refl),
    )

-- a list of two
pub two : (fields : Record) → length fields ≡ 2 →
    (a : List ℕ) × (b : List ℕ) × (fields ≡ a ∷ b ∷ [])
two (a ∷ b ∷ []) e = (a, b, refl)
two [] e = absurd (cc)
two (a ∷ []) e = absurd (cc)
two (a ∷ b ∷ c ∷ fields) e = absurd (omega (arith, e))

-- a first record of two fields is a pair, and another is none
pub told-pair : {X : Type 0} (fields_in : X → Record) (line : List ℕ) (fields : Record)
    (pair : Option X) → has_tab line ≡ false → HasRecord line fields →
    MatchOption pair (¬ (length fields ≡ 2))
    (λ r. (length fields ≡ 2) × (fields_in r ≡ fields)) →
    MatchOption pair (IsNoPair line) (λ r. (prefix : List ℕ) × (text : List ℕ) ×
    IsPair line prefix text × (fields_in r ≡ prefix ∷ text ∷ []))
told-pair fields_in line fields None no_tab has h = other fields has h
told-pair fields_in line fields (Some r) no_tab has h =
    let t = two fields h.0 in
    (t.0, t.1, (no_tab, subst (λ f. HasRecord line f) t.2 has), h.1 ∙ t.2)

-- the two fields of a record, with a tab between
pub pair_text : (fields : Record) (a b : List ℕ) → fields ≡ a ∷ b ∷ [] →
    field_in fields 0 ++ 9 ∷ field_in fields 1 ≡ a ++ 9 ∷ b
unfolding field_at
pair_text fields a b e = rw e refl
