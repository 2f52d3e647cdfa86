-- What the field of a number is answered: fields of its own.
use Rattle.std.specs.Prelude.{◌≡◌, ◌==◌, ℕ, Bool, true, false, List, [], ◌∷◌, codes}
use Rattle.std.specs.Prelude.{chars, length, Option, Some, None, Ok, Err}
use Rattle.std.specs.Option.{option_map_or}
use Rattle.std.specs.Str.{IsUtf8, trim}
use Rattle.phone_values.specs.Refusals.{report_words}
use Rattle.phone_values.specs.declared.country.Id.{Id}
use Rattle.phone_values.specs.declared.error.ParseError.{ParseError}
use Rattle.phone_values.specs.declared.reading.Reading.{Reading}
use Rattle.phone_csv.specs.Formats.{Record}
use Rattle.phone_plans.specs.CodeLookUps.{first_of, territories}
use Rattle.phone_records.specs.declared.loader.Metadata.{Metadata}
use Rattle.phone_short.specs.declared.kind.ShortKind.TheVariants.{Emergency, ShortNumber}
use Rattle.phone_engine.specs.Facts.{is_valid_by}
use Rattle.phone_engine.specs.Readings.{ReadsBy}
use Rattle.phone_values.specs.declared.rules.Rules.{Rules}
use Rattle.phone_answers.specs.Fields.{answer_by, of_number, of_refusal}
use Rattle.phone_answers.specs.Shorts.{short_answer, short_in}

-- the answer to a number of a listed code
abbrev pub number_answer : Rules → List Metadata → Metadata → Reading → Record
number_answer rules db m n = answer_by (of_number rules db m n)

-- the answer to what is refused by these words
abbrev pub refused_answer : List ℕ → Record
refused_answer words = answer_by (of_refusal words)

-- a field has no character but white space
abbrev pub is_blank : List ℕ → Bool
is_blank field = length (trim field) == 0

-- what a text is answered: nothing but white space, a refusal, or a number, which is that
pub data IsReply (rules : Rules) (db : List Metadata) (hint : Option Id) (text : List ℕ) :
    Option Reading → Record → Type 0 where
  blank : is_blank text ≡ true → IsReply rules db hint text None (refused_answer (codes "empty"))
  refused : (e : ParseError) → is_blank text ≡ false →
      ReadsBy rules db hint (chars text) (Err e) →
      IsReply rules db hint text None (refused_answer (report_words e))
  read : (n : Reading) (m : Metadata) → is_blank text ≡ false →
      ReadsBy rules db hint (chars text) (Ok n) →
      first_of (territories n.code.value db) ≡ Some m →
      IsReply rules db hint text (Some n) (number_answer rules db m n)

-- a number was read that is valid
abbrev pub is_valid_number : Rules → List Metadata → Option Reading → Bool
is_valid_number rules db number = option_map_or (λ n. is_valid_by rules db n) number false

-- what a text is answered that may be a short number of the hint's region: an emergency number
-- always as one, another short number where no valid number is read; else as it is read
pub data IsTextAnswer (rules : Rules) (db : List Metadata) (short : Option (List Metadata))
    (hint : Option Id) (text : List ℕ) : Option Reading → Record → Type 0 where
  emergency : (region : Id) → short_in short hint text ≡ Some (region, Emergency) →
      IsTextAnswer rules db short hint text None (short_answer region Emergency)
  short_number : (region : Id) (number : Option Reading) (reply : Record) →
      short_in short hint text ≡ Some (region, ShortNumber) →
      IsReply rules db hint text number reply → is_valid_number rules db number ≡ false →
      IsTextAnswer rules db short hint text None (short_answer region ShortNumber)
  valid_number : (region : Id) (number : Option Reading) (reply : Record) →
      short_in short hint text ≡ Some (region, ShortNumber) →
      IsReply rules db hint text number reply → is_valid_number rules db number ≡ true →
      IsTextAnswer rules db short hint text number reply
  no_short_number : (number : Option Reading) (reply : Record) →
      short_in short hint text ≡ None → IsReply rules db hint text number reply →
      IsTextAnswer rules db short hint text number reply

-- what the field of a number is answered: as its text is; words of its own where its bytes are none
pub data IsFieldAnswer (rules : Rules) (db : List Metadata) (short : Option (List Metadata))
    (hint : Option Id) (field : List ℕ) : Option Reading → Record → Type 0 where
  no_text : ¬ (IsUtf8 field) →
      IsFieldAnswer rules db short hint field None (refused_answer (codes "not UTF-8"))
  of_text : (number : Option Reading) (answer : Record) → IsUtf8 field →
      IsTextAnswer rules db short hint field number answer →
      IsFieldAnswer rules db short hint field number answer
