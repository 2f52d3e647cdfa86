-- Which territory a number is of, and of which it is a valid number: as libphonenumber tells.
use Rattle.std.specs.Prelude.{ℕ, not, Bool, false, List, filter, Option}
use Rattle.std.specs.List.{find}
use Rattle.std.specs.Option.{option_and_then, option_map_or}
use Rattle.phone_values.specs.Numbers.{text_of}
use Rattle.phone_values.specs.declared.country.Id.{Id}
use Rattle.phone_values.specs.declared.reading.Reading.{Reading}
use Rattle.phone_library.specs.Facts.{kind_of_number, region_of_number}
use Rattle.phone_library.specs.Kinds.{is_number_of, kind_in}
use Rattle.phone_plans.specs.Records.{has_code, has_id}
use Rattle.phone_records.specs.declared.loader.Metadata.{Metadata}
use Rattle.phone_read.specs.Kinds.{is_known}
use Rattle.phone_questions.specs.Kinds.{is_geographical_kind}
use Rattle.phone_questions.specs.Regions.{territory_of}

-- the territory with an id among those of a calling code: the earliest
abbrev pub territory_with : List Metadata → List ℕ → ℕ → Option Metadata
territory_with db id code = find (has_id id) (filter (has_code code) db)

-- the kind of a number is known in a territory
abbrev pub is_known_in : Reading → Metadata → Bool
is_known_in n m = is_known (kind_in m (text_of n.national))

-- a number is valid for an id: its calling code has a territory with that id, which knows its kind
abbrev pub is_valid_for : List Metadata → List ℕ → Reading → Bool
is_valid_for db id n = option_map_or (is_known_in n) (territory_with db id n.code.value) false

-- the territory of a number's region
abbrev pub own_territory : List Metadata → Reading → Option Metadata
own_territory db n = option_and_then (territory_of db) (region_of_number db n)

-- numbers that are dialled at home alone: a territory's descriptor of these has them
abbrev pub is_home_number : Reading → Metadata → Bool
is_home_number n m = is_number_of m.no_international (text_of n.national)

-- a number that has this region can be dialled from abroad, unless the region's territory says that
-- it is dialled at home alone
abbrev pub is_dialled_by_region : List Metadata → Option Id → Reading → Bool
is_dialled_by_region db region n = not (option_map_or (is_home_number n)
    (option_and_then (territory_of db) region) false)

-- a number can be dialled from abroad, where the territory of its region doesn't say otherwise
abbrev pub is_dialled_from_abroad : List Metadata → Reading → Bool
is_dialled_from_abroad db n = is_dialled_by_region db (region_of_number db n) n

-- a number is of a place where its kind is
abbrev pub is_geographical : List Metadata → Reading → Bool
is_geographical db n = is_geographical_kind (kind_of_number db n) n.code.value
