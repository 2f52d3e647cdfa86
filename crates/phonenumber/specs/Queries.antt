-- What a database tells of a number that was read: after the original's `phone_number` and
-- `validator`.
use Rattle.std.specs.Prelude.{Bool, false, List, Option}
use Rattle.std.specs.Fmt.{decimal}
use Rattle.std.specs.Option.{option_and_then, option_map_or}
use Rattle.phone_values.specs.Ids.{id_of}
use Rattle.phone_values.specs.Numbers.{text_of}
use Rattle.phone_values.specs.declared.country.Id.{Id}
use Rattle.phone_values.specs.declared.kind.«Type».{«Type»}
use Rattle.phone_values.specs.declared.kind.«Type».TheVariants.{Unknown}
use Rattle.phone_records.specs.declared.loader.Metadata.{Metadata}
use Rattle.phone_read.specs.Regions.{home}
use Rattle.phone_read.specs.Kinds.{is_known, type_of}
use Rattle.phone_values.specs.declared.reading.Reading.{Reading}

-- its territory: the home of its value, without leading zeros
abbrev pub territory_of_number : List Metadata → Reading → Option Metadata
territory_of_number db n = home db n.code.value (decimal n.national.value)

-- its region: the territory's id, where that is one of the known ids
abbrev pub region_of_number : List Metadata → Reading → Option Id
region_of_number db n = option_and_then (λ (m : Metadata). option_and_then id_of m.id)
    (territory_of_number db n)

-- its kind: that of its value under its territory; unknown without one
abbrev pub kind_of_number : List Metadata → Reading → «Type»
kind_of_number db n = option_map_or (λ (m : Metadata). type_of m (decimal n.national.value))
    (territory_of_number db n) Unknown

-- it is valid where its digits, this time with their leading zeros, have a home and are of a known
-- kind there
abbrev pub is_valid : List Metadata → Reading → Bool
is_valid db n = option_map_or (λ (m : Metadata). is_known (type_of m (text_of n.national)))
    (home db n.code.value (text_of n.national)) false
