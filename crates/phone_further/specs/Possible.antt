-- What the count of a number's digits says of it as a number of a kind: our own answer.
use Rattle.std.specs.Prelude.{if◌then◌else◌, List, length, Option, None}
use Rattle.std.specs.Option.{option_map_or, option_or}
use Rattle.phone_values.specs.Numbers.{text_of}
use Rattle.phone_values.specs.declared.kind.«Type».{«Type»}
use Rattle.phone_values.specs.declared.reading.Reading.{Reading}
use Rattle.phone_values.specs.declared.validator.Validation.{Validation}
use Rattle.phone_values.specs.declared.validator.Validation.TheVariants.{InvalidCountryCode}
use Rattle.phone_library.specs.Facts.{is_valid_number}
use Rattle.phone_plans.specs.CodeLookUps.{first_of, territories}
use Rattle.phone_records.specs.declared.loader.Metadata.{Metadata}
use Rattle.phone_questions.specs.Belonging.{own_territory}
use Rattle.phone_questions.specs.Possible.{verdict_in}

-- the territory of a valid number's region
abbrev pub valid_territory : List Metadata → Reading → Option Metadata
valid_territory db n = if is_valid_number db n then own_territory db n else None

-- the territory whose lengths tell of a number: its region's where it is valid, else the first of
-- its calling code
abbrev pub telling_territory : List Metadata → Reading → Option Metadata
telling_territory db n = option_or (valid_territory db n)
    (first_of (territories n.code.value db))

-- what the count of a number's digits, its leading zeros included, says of it as a number of a
-- kind: by that territory
abbrev pub possibility_of : List Metadata → «Type» → Reading → Validation
possibility_of db kind n = option_map_or (verdict_in kind (length (text_of n.national)))
    (telling_territory db n) InvalidCountryCode
