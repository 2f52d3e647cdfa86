-- A field has one answer, and a line one object.
use Rattle.std.proofs.Common.{◌≡◌, ◌==◌, ℕ, List, Option, None, Some, true, false, Result, Ok}
use Rattle.std.proofs.Common.{Err}
use Rattle.std.proofs.Common.{chars, refl, sym, ap, ap₂, subst, ◌∙◌, true≢false}
use Rattle.std.specs.Prelude.{⊤}
use Rattle.std.proofs.lemmas.Bool.{false≢true}
use Rattle.std.proofs.lemmas.Option.{same_Some}
use Rattle.std.proofs.lemmas.Result.{IfErr-at_err, IfOk-at_ok, MatchResult-at_err}
use Rattle.serde_json.specs.Data.{Data, null, string}
use Rattle.serde_json.specs.Written.{compact_text}
use Rattle.phone_values.specs.Refusals.{report_words}
use Rattle.phone_values.specs.declared.country.Id.{Id}
use Rattle.phone_values.specs.declared.reading.Reading.{Reading}
use Rattle.phone_values.specs.declared.rules.Rules.{Rules}
use Rattle.phone_csv.specs.Formats.{Record}
use Rattle.phone_plans.specs.CodeLookUps.{first_of, territories}
use Rattle.phone_records.specs.declared.loader.Metadata.{Metadata}
use Rattle.phone_short.specs.declared.kind.ShortKind.{ShortKind}
use Rattle.phone_short.specs.declared.kind.ShortKind.TheVariants.{Emergency, ShortNumber}
use Rattle.phone_engine.proofs.OneReading.{reading_same}
use Rattle.phone_answers.specs.Answers.{IsFieldAnswer, IsReply, IsTextAnswer, is_valid_number}
use Rattle.phone_answers.specs.Answers.{number_answer, refused_answer}
use Rattle.phone_answers.specs.Answers.IsFieldAnswer.{no_text, of_text}
use Rattle.phone_answers.specs.Answers.IsReply.{blank, read, refused}
use Rattle.phone_answers.specs.Answers.IsTextAnswer.{emergency, no_short_number, short_number}
use Rattle.phone_answers.specs.Answers.IsTextAnswer.{valid_number}
use Rattle.phone_answers.specs.Extras.{AreTold, EachHasOneText}
use Rattle.phone_answers.specs.Objects.{IsObject, IsObjectLine, object_of}
use Rattle.phone_answers.specs.Objects.IsObject.{no_text as no_text_object, of_text as object_of_text}
use Rattle.phone_answers.specs.Shorts.{short_answer, short_in}
use Rattle.phone_answers.specs.declared.extra.Extra.{Extra}
use Rattle.phone_answers.proofs.OneTold.{all_told_same}

-- two answers are one, of one number or of none
abbrev pub AreSame : (n k : Option Reading) → (a b : Record) → Type 0
AreSame n k a b = (n ≡ k) × (a ≡ b)

-- a result is no `Ok` and `Err` at once
no_both : {T E : Type 0} (x : T) (e : E) → ◌≡◌ {A = Result T E} (Ok x) (Err e) → ⊥
no_both x e is = MatchResult-at_err {r = Ok x} (λ _. ⊤) (λ _. ⊥) e is tt

same_number : (rules : Rules) (db : List Metadata) (n k : Reading) (m l : Metadata) → n ≡ k →
    first_of (territories n.code.value db) ≡ Some m →
    first_of (territories k.code.value db) ≡ Some l → AreSame (Some n) (Some k)
    (number_answer rules db m n) (number_answer rules db l k)
same_number rules db n k m l e f g = (
  ap Some e,
  ap₂ (number_answer rules db)
      (same_Some m l
      (sym f ∙ ap (λ (r : Reading). first_of (territories r.code.value db)) e ∙ g)) e,
)

-- which short number was found, as a number
abbrev kind_found : Option (Id × ShortKind) → ℕ
kind_found None = 0
kind_found (Some (region, Emergency)) = 1
kind_found (Some (region, ShortNumber)) = 2

as_itself : (o : Option (Id × ShortKind)) → (kind_found o == kind_found o) ≡ true
as_itself None = refl
as_itself (Some (region, Emergency)) = refl
as_itself (Some (region, ShortNumber)) = refl

module _ (rules : Rules) (db : List Metadata) (hint : Option Id) (text : List ℕ) where
  -- a text has one reply
  reply_same : (n k : Option Reading) (a b : Record) → IsReply rules db hint text n a →
      IsReply rules db hint text k b → AreSame n k a b
  reply_same _ _ _ _ (blank e) (blank e') = (refl, refl)
  reply_same _ _ _ _ (blank e) (refused x e' r) = absurd (true≢false (sym e ∙ e'))
  reply_same _ _ _ _ (blank e) (read n m e' r f) = absurd (true≢false (sym e ∙ e'))
  reply_same _ _ _ _ (refused x e r) (blank e') = absurd (true≢false (sym e' ∙ e))
  reply_same _ _ _ _ (refused x e r) (refused x' e' r') = (
    refl,
    ap (λ y. refused_answer (report_words y))
        (IfErr-at_err (λ y. x ≡ y)
        (reading_same rules db hint (chars text) (Err x) (Err x') r r') refl),
  )
  reply_same _ _ _ _ (refused x e r) (read n m e' r' f) =
      absurd (no_both n x (reading_same rules db hint (chars text) (Ok n) (Err x) r' r))
  reply_same _ _ _ _ (read n m e r f) (blank e') = absurd (true≢false (sym e' ∙ e))
  reply_same _ _ _ _ (read n m e r f) (refused x e' r') =
      absurd (no_both n x (reading_same rules db hint (chars text) (Ok n) (Err x) r r'))
  reply_same _ _ _ _ (read n m e r f) (read k l e' r' g) =
      same_number rules db n k m l
      (IfOk-at_ok (λ y. n ≡ y)
      (reading_same rules db hint (chars text) (Ok n) (Ok k) r r') refl) f g

  module _ (short : Option (List Metadata)) where
    -- one kind is found, or none
    as_one : (o p : Option (Id × ShortKind)) → short_in short hint text ≡ o →
        short_in short hint text ≡ p → (kind_found o == kind_found p) ≡ true
    as_one o p e f =
        subst (λ x. (kind_found o == kind_found x) ≡ true) (sym e ∙ f) (as_itself o)

    same_region : (r s : Id) (k : ShortKind) → short_in short hint text ≡ Some (r, k) →
        short_in short hint text ≡ Some (s, k) → short_answer r k ≡ short_answer s k
    same_region r s k e f =
        ap (λ (x : Id × ShortKind). short_answer x.0 k) (same_Some _ _ (sym e ∙ f))

    -- a number is valid and isn't
    unlike : (n k : Option Reading) (a b : Record) → IsReply rules db hint text n a →
        IsReply rules db hint text k b → is_valid_number rules db n ≡ true →
        is_valid_number rules db k ≡ false → ⊥
    unlike n k a b h g v w =
        true≢false (sym v ∙ ap (is_valid_number rules db) (reply_same n k a b h g).0 ∙ w)

    -- a text that may be a short number has one answer
    text_same : (n k : Option Reading) (a b : Record) → IsTextAnswer rules db short hint text n a →
        IsTextAnswer rules db short hint text k b → AreSame n k a b
    text_same _ _ _ _ (emergency r e) (emergency s f) = (refl, same_region r s Emergency e f)
    text_same _ _ _ _ (emergency r e) (short_number s k b f g w) =
        absurd (false≢true (as_one _ _ e f))
    text_same _ _ _ _ (emergency r e) (valid_number s k b f g w) =
        absurd (false≢true (as_one _ _ e f))
    text_same _ _ _ _ (emergency r e) (no_short_number k b f g) =
        absurd (false≢true (as_one _ _ e f))
    text_same _ _ _ _ (short_number r n a e h v) (emergency s f) =
        absurd (false≢true (as_one _ _ e f))
    text_same _ _ _ _ (short_number r n a e h v) (short_number s k b f g w) =
        (refl, same_region r s ShortNumber e f)
    text_same _ _ _ _ (short_number r n a e h v) (valid_number s k b f g w) =
        absurd (unlike k n b a g h w v)
    text_same _ _ _ _ (short_number r n a e h v) (no_short_number k b f g) =
        absurd (false≢true (as_one _ _ e f))
    text_same _ _ _ _ (valid_number r n a e h v) (emergency s f) =
        absurd (false≢true (as_one _ _ e f))
    text_same _ _ _ _ (valid_number r n a e h v) (short_number s k b f g w) =
        absurd (unlike n k a b h g v w)
    text_same _ _ _ _ (valid_number r n a e h v) (valid_number s k b f g w) = reply_same n k a b h g
    text_same _ _ _ _ (valid_number r n a e h v) (no_short_number k b f g) =
        absurd (false≢true (as_one _ _ e f))
    text_same _ _ _ _ (no_short_number n a e h) (emergency s f) =
        absurd (false≢true (as_one _ _ e f))
    text_same _ _ _ _ (no_short_number n a e h) (short_number s k b f g w) =
        absurd (false≢true (as_one _ _ e f))
    text_same _ _ _ _ (no_short_number n a e h) (valid_number s k b f g w) =
        absurd (false≢true (as_one _ _ e f))
    text_same _ _ _ _ (no_short_number n a e h) (no_short_number k b f g) = reply_same n k a b h g

-- a field has one answer
pub one_field_answer : (rules : Rules) (db : List Metadata) (short : Option (List Metadata))
    (hint : Option Id) (field : List ℕ) (n k : Option Reading) (a b : Record) →
    IsFieldAnswer rules db short hint field n a → IsFieldAnswer rules db short hint field k b →
    AreSame n k a b
one_field_answer rules db short hint field _ _ _ _ (no_text x) (no_text y) = (refl, refl)
one_field_answer rules db short hint field _ _ _ _ (no_text x) (of_text k b u g) = absurd (x u)
one_field_answer rules db short hint field _ _ _ _ (of_text n a u h) (no_text y) = absurd (y u)
one_field_answer rules db short hint field _ _ _ _ (of_text n a u h) (of_text k b w g) =
    text_same rules db hint field short n k a b h g

module _ (rules : Rules) (db : List Metadata) (short : Option (List Metadata)) (extra : List Extra)
    (hint : Option Id) (place : ℕ) (line : List ℕ) where
  same_object : (text : Data) (n k : Option Reading) (a b told other : Record) →
      EachHasOneText extra → AreSame n k a b →
      AreTold rules db (Some hint) line n extra told →
      AreTold rules db (Some hint) line k extra other →
      object_of rules db place text n a extra told ≡ object_of rules db place text k b extra other
  same_object text n k a b told other one same t u =
      let told_of_one = subst (λ x. AreTold rules db (Some hint) line x extra told) same.0 t in
      ap₂ (λ x y. object_of rules db place text x y extra told) same.0 same.1 ∙
      ap (object_of rules db place text k b extra)
      (all_told_same rules db (Some hint) line k extra told other one told_of_one u)

  -- a line has one object
  pub one_line_object : (d e : Data) → EachHasOneText extra →
      IsObject rules db short extra hint place line d →
      IsObject rules db short extra hint place line e → d ≡ e
  one_line_object _ _ one (no_text_object n a told x h t) (no_text_object k b other y g u) =
      same_object null n k a b told other one
      (one_field_answer rules db short hint line n k a b h g) t u
  one_line_object _ _ one (no_text_object n a told x h t) (object_of_text k b other u g s) =
      absurd (x u)
  one_line_object _ _ one (object_of_text n a told u h t) (no_text_object k b other y g s) =
      absurd (y u)
  one_line_object _ _ one (object_of_text n a told u h t) (object_of_text k b other w g s) =
      same_object (string line) n k a b told other one
      (one_field_answer rules db short hint line n k a b h g) t s

  -- and one text of it
  pub one_object_line : (a b : List ℕ) → EachHasOneText extra →
      IsObjectLine rules db short extra hint place line a →
      IsObjectLine rules db short extra hint place line b → a ≡ b
  one_object_line a b one h g =
      h.2 ∙ ap compact_text (one_line_object h.0 g.0 one h.1 g.1) ∙ sym g.2
