-- The carrier of a number.
use Rattle.std.specs.Prelude.{Bool, false, List}
use Rattle.std.specs.Option.{option_map_or}
use Rattle.phone_library.specs.Facts.{region_of_number}
use Rattle.phone_questions.specs.Regions as regions
use Rattle.phone_records.specs.declared.loader.Metadata.{Metadata}
use Rattle.phone_values.specs.declared.reading.Reading.{Reading}

-- a mobile number of the number's region can be kept when the carrier changes
abbrev pub is_portable : List Metadata → Reading → Bool
is_portable db n = option_map_or (regions.is_portable db) (region_of_number db n) false
