-- What is told of two numbers alike.
use Rattle.std.specs.Prelude.{◌≡◌, List, length, Option, option_map}
use Rattle.phone_values.specs.Numbers.{text_of}
use Rattle.phone_values.specs.declared.reading.Reading.{Reading}
use Rattle.phone_values.specs.declared.validator.Validation.{Validation}
use Rattle.phone_library.specs.Facts.{is_valid_number, kind_of_number, region_of_number}
use Rattle.phone_library.specs.Lengths.{length_in}
use Rattle.phone_plans.specs.CodeLookUps.{first_of, territories}
use Rattle.phone_records.specs.declared.loader.Metadata.{Metadata}

-- whether a number is possible: what the count of its digits says in its code's first territory
abbrev pub length_of_number : List Metadata → Reading → Option Validation
length_of_number db n = option_map (λ (m : Metadata). length_in m (length (text_of n.national)))
    (first_of (territories n.code.value db))

-- two numbers have the same code and national number, and are of one region and kind, and alike
-- valid and possible
pub record AreToldAlike (db : List Metadata) (a b : Reading) : Type 0 where
  pub code : a.code.value ≡ b.code.value
  pub national : a.national ≡ b.national
  pub region : region_of_number db a ≡ region_of_number db b
  pub kind : kind_of_number db a ≡ kind_of_number db b
  pub valid : is_valid_number db a ≡ is_valid_number db b
  pub possible : length_of_number db a ≡ length_of_number db b
