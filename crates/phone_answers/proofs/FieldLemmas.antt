-- What each field tells, field by field.
use Rattle.std.proofs.Common.{◌≡◌, ℕ, List, [], ◌∷◌, None, map, refl, ap₂, string_bytes}
use Rattle.phone_engine.specs.Facts.{is_valid_by, kind_by, printed_as, region_by}
use Rattle.phone_engine.specs.Words.{kind_word, region_word, validity_word}
use Rattle.phone_print.specs.Texts.{text_by_rules}
use Rattle.phone_records.specs.declared.loader.Metadata.{Metadata}
use Rattle.phone_values.specs.declared.mode.Mode.TheVariants as mode
use Rattle.phone_values.specs.declared.reading.Reading.{Reading}
use Rattle.phone_values.specs.declared.rules.Rules.{Rules}
use Rattle.phone_answers.specs.Fields.{answer_by, fields, in_answer, of_known, of_number}
use Rattle.phone_answers.specs.declared.answer.Known.{Known}
use Rattle.phone_answers.specs.declared.field.Field.{Field}
use Rattle.phone_answers.specs.declared.field.Field.TheVariants.{E164, International, Kind, National, Refusal, Region, Validity}

-- a field of an answer is what it tells
pub in_answer_by : (told : Field → List ℕ) (field : Field) → in_answer (answer_by told) field ≡ told field
in_answer_by told E164 = refl
in_answer_by told International = refl
in_answer_by told National = refl
in_answer_by told Kind = refl
in_answer_by told Region = refl
in_answer_by told Validity = refl
in_answer_by told Refusal = refl

-- each field tells of a number by what is known of it
pub known_told : (rules : Rules) (db : List Metadata) (m : Metadata) (n : Reading) (k : Known) → string_bytes k.texts.e164 ≡ text_by_rules rules m mode.E164 None (printed_as rules n) →
    string_bytes k.texts.international ≡ text_by_rules rules m mode.International None (printed_as rules n) →
    string_bytes k.texts.national ≡ text_by_rules rules m mode.National None (printed_as rules n) → kind_word k.facts.kind ≡ kind_word (kind_by rules db n) →
    region_word k.facts.region ≡ region_word (region_by rules db n) → validity_word k.facts.is_valid ≡ validity_word (is_valid_by rules db n) →
    (field : Field) → of_known k field ≡ of_number rules db m n field
known_told rules db m n k e164 international national kind region validity E164 = e164
known_told rules db m n k e164 international national kind region validity International = international
known_told rules db m n k e164 international national kind region validity National = national
known_told rules db m n k e164 international national kind region validity Kind = kind
known_told rules db m n k e164 international national kind region validity Region = region
known_told rules db m n k e164 international national kind region validity Validity = validity
known_told rules db m n k e164 international national kind region validity Refusal = refl

-- two answers are one where each field tells the same
map_same : (told other : Field → List ℕ) → ((field : Field) → told field ≡ other field) → (all : List Field) → map told all ≡ map other all
map_same told other same [] = refl
map_same told other same (field ∷ more) = ap₂ (λ x xs. x ∷ xs) (same field) (map_same told other same more)

pub answer_same : (told other : Field → List ℕ) → ((field : Field) → told field ≡ other field) → answer_by told ≡ answer_by other
answer_same told other same = map_same told other same fields
