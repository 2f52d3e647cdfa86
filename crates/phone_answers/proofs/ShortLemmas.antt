-- The answer to an emergency number.
use Rattle.std.proofs.Common.{◌≡◌, ◌∙◌, ℕ, List, Option, None, Some, true, chars, refl, sym, ap}
use Rattle.std.specs.Str.{IsUtf8}
use Rattle.std.proofs.lemmas.Option.{same_Some}
use Rattle.phone_values.specs.declared.country.Id.{Id}
use Rattle.phone_values.specs.declared.reading.Reading.{Reading}
use Rattle.phone_csv.specs.Formats.{Record}
use Rattle.phone_values.specs.declared.rules.Rules.{Rules}
use Rattle.phone_records.specs.declared.loader.Metadata.{Metadata}
use Rattle.phone_short.specs.Regions.{short_kind}
use Rattle.phone_short.specs.declared.kind.ShortKind.{ShortKind}
use Rattle.phone_short.specs.declared.kind.ShortKind.TheVariants.{Emergency, ShortNumber}
use Rattle.phone_answers.specs.Answers.{IsFieldAnswer, IsTextAnswer}
use Rattle.phone_answers.specs.Answers.IsFieldAnswer.{no_text, of_text}
use Rattle.phone_answers.specs.Answers.IsTextAnswer.{emergency, no_short_number, short_number, valid_number}
use Rattle.phone_answers.specs.Shorts.{is_number_alone, short_answer, short_in}

module _ (rules : Rules) (db short : List Metadata) (region : Id) (field : List ℕ)
    (alone : is_number_alone field ≡ true) (is : short_kind short region (chars field) ≡ Some Emergency) where
  found : short_in (Some short) (Some region) field ≡ Some (region, Emergency)
  found = rw (alone, is) refl

  other : (r : Id) → short_in (Some short) (Some region) field ≡ Some (r, ShortNumber) → Emergency ≡ ShortNumber
  other r e = ap (λ (x : Id × ShortKind). x.1) (same_Some _ _ (sym found ∙ e))

  text_alone : (number : Option Reading) (answer : Record) → IsTextAnswer rules db (Some short) (Some region) field number answer →
      (number ≡ None) × (answer ≡ short_answer region Emergency)
  text_alone _ _ (emergency r e) = (refl, ap (λ (x : Id × ShortKind). short_answer x.0 Emergency) (same_Some _ _ (sym e ∙ found)))
  text_alone _ _ (short_number r n reply e h v) = let k = other r e in (refl, cc k)
  text_alone _ _ (valid_number r n reply e h v) = let k = other r e in (cc k, cc k)
  text_alone _ _ (no_short_number n reply e h) = let k = sym found ∙ e in (cc k, cc k)

  pub field_alone : (number : Option Reading) (answer : Record) → IsUtf8 field → IsFieldAnswer rules db (Some short) (Some region) field number answer →
      (number ≡ None) × (answer ≡ short_answer region Emergency)
  field_alone _ _ text (no_text bytes) = absurd (bytes text)
  field_alone number answer text (of_text n a u h) = text_alone n a h
