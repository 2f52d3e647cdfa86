-- What a database tells of a number: as libphonenumber tells it.
use Rattle.std.specs.Prelude.{Bool, List, Option}
use Rattle.std.specs.Option.{option_and_then, option_map_or}
use Rattle.phone_values.specs.Ids.{id_of}
use Rattle.phone_values.specs.Numbers.{text_of}
use Rattle.phone_values.specs.declared.country.Id.{Id}
use Rattle.phone_values.specs.declared.kind.«Type».{«Type»}
use Rattle.phone_values.specs.declared.kind.«Type».TheVariants.{Unknown}
use Rattle.phone_values.specs.declared.reading.Reading.{Reading}
use Rattle.phone_read.specs.Kinds.{is_known}
use Rattle.phone_library.specs.Kinds.{kind_in, territory_in}
use Rattle.phone_records.specs.declared.loader.Metadata.{Metadata}

-- the territory of a number, by its national digits with their leading zeros
abbrev pub territory_of_number : List Metadata → Reading → Option Metadata
territory_of_number db n = territory_in db n.code.value (text_of n.national)

-- its region: the id of that territory, where that is a region's
abbrev pub region_of_number : List Metadata → Reading → Option Id
region_of_number db n = option_and_then (λ (m : Metadata). option_and_then id_of m.id)
    (territory_of_number db n)

-- its kind in that territory
abbrev pub kind_of_number : List Metadata → Reading → «Type»
kind_of_number db n = option_map_or (λ (m : Metadata). kind_in m (text_of n.national))
    (territory_of_number db n) Unknown

-- it is valid where that kind is known
abbrev pub is_valid_number : List Metadata → Reading → Bool
is_valid_number db n = is_known (kind_of_number db n)
