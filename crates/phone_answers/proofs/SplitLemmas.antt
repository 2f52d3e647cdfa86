-- What is told of a number stands in the answer to it.
use Rattle.std.proofs.Common.{◌≡◌, ℕ, List, [], None, Some, Option, IfSome, MatchOption, Result, Ok, Err, IfOk, refl, ap, sym, subst, ◌∙◌}
use Rattle.std.specs.Prelude.{string_bytes, String}
use Rattle.std.specs.declared.alloc.Global.{Global}
use Rattle.phone_csv.specs.Formats.{Record}
use Rattle.phone_doubts.specs.Valid.{AreReadAsTwo, IsNoPair}
use Rattle.phone_engine.proofs.OneReading.{has_territory}
use Rattle.phone_plans.specs.CodeLookUps.{first_of, territories}
use Rattle.phone_records.specs.declared.loader.Metadata.{Metadata}
use Rattle.phone_values.specs.declared.country.Id.{Id}
use Rattle.phone_values.specs.declared.reading.Reading.{Reading}
use Rattle.phone_values.specs.declared.rules.Rules.{Rules}
use Rattle.phone_answers.specs.Answers.{number_answer}
use Rattle.phone_answers.specs.Splits.{IsListed, IsShown, IsSplitText, one_of, shown_in, shown_of}
use Rattle.phone_answers.specs.declared.split.Shown.{Shown}
use Rattle.phone_answers.specs.declared.split.Shown.TheVariants.{E164, Kind, Region}
use Rattle.phone_answers.specs.declared.split.Which.{Which}
use Rattle.phone_answers.specs.declared.split.Which.TheVariants.{First, Second}
use Rattle.phone_answers.specs.Splits.IsSplitText.{no_pair, pair}

module _ (rules : Rules) (db : List Metadata) where
  -- it is told as it stands there
  shown_same : (m : Metadata) (n : Reading) (shown : Shown) → shown_in (number_answer rules db m n) shown ≡ shown_of rules db m n shown
  shown_same m n E164 = refl
  shown_same m n Kind = refl
  shown_same m n Region = refl

  -- so where it is found
  pub shown_by : {E : Type 0} (n : Reading) (which : Shown) (m : Metadata) (answer : Record) → first_of (territories n.code.value db) ≡ Some m →
      answer ≡ number_answer rules db m n → (r : Result (String Global) E) → IfOk r (λ text. string_bytes text ≡ shown_in answer which) →
      IfOk r (λ text. IsShown rules db n which (string_bytes text))
  shown_by n which m answer is same (Ok text) h = (m, is, h ∙ ap (λ a. shown_in a which) same ∙ shown_same m n which)
  shown_by n which m answer is same (Err e) h = h

  module _ (hint : Option Id) (t : List ℕ) (which : Which) where
    -- the code of each of two numbers is listed
    one_listed : (w : Which) (n k : Reading) → AreReadAsTwo rules db hint t n k → IsListed db (one_of w n k)
    one_listed First n k are = has_territory rules db hint are.first n are.is_first.read
    one_listed Second n k are = has_territory rules db hint are.second k are.is_second.read

    -- the two numbers that a text is, where it is two
    abbrev pub Found : Option (Reading × Reading) → Type 0
    Found found = MatchOption found (IsNoPair rules db hint t) (λ p. AreReadAsTwo rules db hint t p.0 p.1)

    pub listed : (found : Option (Reading × Reading)) → Found found → IfSome found (λ p. IsListed db (one_of which p.0 p.1))
    listed None none = tt
    listed (Some p) are = one_listed which p.0 p.1 are

    -- what is told of one of them is told of the text
    pub split : {E : Type 0} (shown : Shown) (found : Option (Reading × Reading)) → Found found → (r : Result (String Global) E) →
        MatchOption found (IfOk r (λ text. string_bytes text ≡ [])) (λ p. IfOk r (λ text. IsShown rules db (one_of which p.0 p.1) shown (string_bytes text))) →
        IfOk r (λ text. IsSplitText rules db hint t which shown (string_bytes text))
    split shown None none (Ok text) e = subst (λ (x : List ℕ). IsSplitText rules db hint t which shown x) (sym e) (no_pair none)
    split shown (Some p) are (Ok text) h = pair p.0 p.1 (string_bytes text) are h
    split shown None none (Err e) h = h
    split shown (Some p) are (Err e) h = h
