-- Numbers of a place.
use Rattle.std.specs.Prelude.{Bool, List}
use Rattle.phone_library.specs.Facts.{kind_of_number}
use Rattle.phone_places.specs.Maps.{is_geographical}
use Rattle.phone_records.specs.declared.loader.Metadata.{Metadata}
use Rattle.phone_values.specs.declared.reading.Reading.{Reading}

-- a number is of a place: its kind is, under its calling code
abbrev pub is_placed : List Metadata → Reading → Bool
is_placed db n = is_geographical (kind_of_number db n) n.code.value
