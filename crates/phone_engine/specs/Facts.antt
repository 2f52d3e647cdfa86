-- What a database says of a number, by whose rules.
use Rattle.std.specs.Prelude.{Bool, List, Option, None}
use Rattle.phone_values.specs.declared.country.Id.{Id}
use Rattle.phone_values.specs.declared.kind.«Type».{«Type»}
use Rattle.phone_values.specs.declared.reading.Reading.{Reading}
use Rattle.phone_library.specs.Facts as library
use Rattle.phone_records.specs.declared.loader.Metadata.{Metadata}
use Rattle.phone_values.specs.declared.rules.Rules.{Rules}
use Rattle.phone_values.specs.declared.rules.Rules.TheVariants.{Library, Crate}
use Rattle.phonenumber.specs.Queries as original

-- its region
abbrev pub region_by : Rules → List Metadata → Reading → Option Id
region_by Library db n = library.region_of_number db n
region_by Crate db n = original.region_of_number db n

-- its kind
abbrev pub kind_by : Rules → List Metadata → Reading → «Type»
kind_by Library db n = library.kind_of_number db n
kind_by Crate db n = original.kind_of_number db n

-- it is valid
abbrev pub is_valid_by : Rules → List Metadata → Reading → Bool
is_valid_by Library db n = library.is_valid_number db n
is_valid_by Crate db n = original.is_valid db n

-- a number as it is printed: by the rules of libphonenumber without the code of a carrier
abbrev pub printed_as : Rules → Reading → Reading
printed_as Library n = record n { carrier = None }
printed_as Crate n = n
