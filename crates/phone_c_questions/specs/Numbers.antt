-- What a database tells of a number that is given as plain numbers.
use Rattle.std.specs.Prelude.{◌≡◌, ℕ, List, IsSomeAnd}
use Rattle.phone_values.specs.declared.reading.Reading.{Reading}
use Rattle.phone_values.specs.declared.validator.Validation.{Validation}
use Rattle.phone_values.specs.declared.validator.Validation.TheVariants.{InvalidCountryCode}
use Rattle.phone_values.specs.declared.validator.Validation.TheVariants.{InvalidLength}
use Rattle.phone_values.specs.declared.validator.Validation.TheVariants.{IsPossible}
use Rattle.phone_values.specs.declared.validator.Validation.TheVariants.{IsPossibleLocalOnly}
use Rattle.phone_values.specs.declared.validator.Validation.TheVariants.{TooLong, TooShort}
use Rattle.phone_records.specs.declared.loader.Metadata.{Metadata}
use Rattle.phone_questions.specs.Belonging.{is_dialled_from_abroad, is_geographical, is_valid_for}
use Rattle.phone_questions.specs.Groups.{area_length, destination_length}
use Rattle.phone_questions.specs.Kinds.{is_geographical_kind}
use Rattle.phone_questions.specs.Possible.{possibility_as}
use Rattle.phone_c_base.specs.Kinds.{kind_of}
use Rattle.phone_c_base.specs.Numbers.{HasNumbers}
use Rattle.phone_c_base.specs.ShortNumbers.{flag}
use Rattle.phone_c_base.specs.declared.number.Number as plain
use Rattle.phone_c_questions.specs.declared.numbers.NumberFacts.{NumberFacts}

-- what is known of a number
abbrev pub number_facts : List Metadata → Reading → NumberFacts
number_facts db n = record {
  area_length = area_length db n;
  destination_length = destination_length db n;
  is_geographical = flag (is_geographical db n);
  is_dialled_from_abroad = flag (is_dialled_from_abroad db n);
}

-- this is known of the number that has these plain numbers
abbrev pub AreNumberFacts : List Metadata → plain.Number → NumberFacts → Type 0
AreNumberFacts db x facts = (n : Reading) × HasNumbers x n × (facts ≡ number_facts db n)

-- 1 where it is valid for the territory of its calling code that has this id, else 0
abbrev pub IsValidityFor : List Metadata → (id : List ℕ) → plain.Number → ℕ → Type 0
IsValidityFor db id x told =
    (n : Reading) × HasNumbers x n × (told ≡ flag (is_valid_for db id n))

-- what a length says, by the number by which the calls for possible numbers tell it
abbrev pub validation_number : Validation → ℕ
validation_number IsPossible = 0
validation_number IsPossibleLocalOnly = 1
validation_number TooShort = 2
validation_number TooLong = 3
validation_number InvalidLength = 4
validation_number InvalidCountryCode = 5

-- the number is a kind's, and this is what the count of its digits says of it as of that kind
abbrev pub IsPossibilityAs : List Metadata → (kind : ℕ) → plain.Number → ℕ → Type 0
IsPossibilityAs db kind x told = IsSomeAnd (kind_of kind) (λ k. (n : Reading) × HasNumbers x n ×
    (told ≡ validation_number (possibility_as db k n)))

-- the number is a kind's; 1 where numbers of it are of a place under this calling code, else 0
abbrev pub IsGeographicalAs : (kind code : ℕ) → ℕ → Type 0
IsGeographicalAs kind code told =
    IsSomeAnd (kind_of kind) (λ k. told ≡ flag (is_geographical_kind k code))
