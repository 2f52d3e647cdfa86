-- The answer to a number that was read.
use Rattle.std.proofs.Common.{◌≡◌, ℕ, List, Option, None, Some, option_map, refl, sym, ◌∷◌}
use Rattle.std.proofs.lemmas.Option.{none-some, same_Some}
use Rattle.phone_values.specs.declared.mode.Mode.TheVariants.{E164, International, National}
use Rattle.phone_values.specs.declared.reading.Reading.{Reading}
use Rattle.phone_records.specs.declared.loader.Metadata.{Metadata}
use Rattle.phone_print.specs.Texts.{e164_text, text_by_rules}
use Rattle.phone_places.specs.Maps.{digits_of}
use Rattle.phone_engine.specs.Facts.{printed_as}
use Rattle.phone_values.specs.declared.rules.Rules.{Rules}
use Rattle.phone_values.specs.declared.rules.Rules.TheVariants.{Library, Crate}
use Rattle.phone_answers.specs.Answers.{is_valid_number}
use Rattle.phone_answers.specs.Spelled.{IsKnownIn, is_valid_in, number_in}
use Rattle.phone_answers.specs.declared.answer.Answer.{Answer}
use Rattle.phone_answers.specs.declared.answer.Answer.TheVariants.{Number, Refused, Short}

-- the texts of a number in three modes, by one territory
pub record HaveTexts (rules : Rules) (o : Option Metadata) (n : Reading) (a b c : List ℕ) : Type 0 where
  pub m : Metadata
  pub first : o ≡ Some m
  pub e164 : a ≡ text_by_rules rules m E164 None n
  pub international : b ≡ text_by_rules rules m International None n
  pub national : c ≡ text_by_rules rules m National None n

pub three_texts : (rules : Rules) (o : Option Metadata) (n : Reading) (a b c : List ℕ) → option_map (λ m. text_by_rules rules m E164 None n) o ≡ Some a →
    option_map (λ m. text_by_rules rules m International None n) o ≡ Some b → option_map (λ m. text_by_rules rules m National None n) o ≡ Some c → HaveTexts rules o n a b c
three_texts rules None n a b c e f g = absurd (none-some a e)
three_texts rules (Some m) n a b c e f g = record {
  m = m;
  first = refl;
  e164 = sym (same_Some _ _ e);
  international = sym (same_Some _ _ f);
  national = sym (same_Some _ _ g);
}

-- a number as it is printed has its code
pub printed_code : (rules : Rules) (n : Reading) → (printed_as rules n).code ≡ n.code
printed_code Library n = refl
printed_code Crate n = refl

-- and its digits
pub printed_digits : (rules : Rules) (n : Reading) → e164_text (printed_as rules n) ≡ 43 ∷ digits_of n
printed_digits Library n = refl
printed_digits Crate n = refl

-- whether an answer is of a valid number, by what it knows
pub known_validity : (rules : Rules) (db : List Metadata) (a : Answer) → IsKnownIn rules db a → is_valid_in a ≡ is_valid_number rules db (number_in a)
known_validity rules db (Number n k) h = h.is_valid
known_validity rules db (Short region kind) h = refl
known_validity rules db (Refused words) h = refl
