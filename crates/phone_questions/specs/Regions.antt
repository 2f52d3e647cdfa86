-- What a database tells of a region and of a calling code: as libphonenumber tells it.
use Rattle.std.specs.Prelude.{ℕ, ◌==◌, not, Bool, false, List, filter, Option, option_map, codes}
use Rattle.std.specs.Prelude.{chars, encode_utf8_all}
use Rattle.std.specs.Option.{option_and_then, option_map_or}
use Rattle.std.specs.Str.{bytes_eq}
use Rattle.phone_values.specs.Ids.{name}
use Rattle.phone_values.specs.declared.country.Id.{Id}
use Rattle.phone_plans.specs.CodeLookUps.{first_of, territories}
use Rattle.phone_plans.specs.Records.{last_with}
use Rattle.phone_records.specs.declared.loader.Metadata.{Metadata}
use Rattle.phone_territory.specs.Records.{id_of}

-- the territory of a region: the last record with its id
abbrev pub territory_of : List Metadata → Id → Option Metadata
territory_of db region = last_with (name region) db

-- the calling code of a region
abbrev pub code_of_region : List Metadata → Id → Option ℕ
code_of_region db region = option_and_then (λ (m : Metadata). m.country_code)
    (territory_of db region)

-- a region of the North American Numbering Plan: its calling code is 1
abbrev pub is_nanpa : List Metadata → Id → Bool
is_nanpa db region = option_map_or (λ code. code == 1) (code_of_region db region) false

-- a mobile number of the region can be kept when the carrier changes
abbrev pub is_portable : List Metadata → Id → Bool
is_portable db region = option_map_or (λ (m : Metadata). m.mobile_number_portable)
    (territory_of db region) false

-- the national prefix of a region; a tilde in it means to wait for a tone
abbrev pub national_prefix : List Metadata → Id → Option (List ℕ)
national_prefix db region = option_and_then (λ (m : Metadata). m.national_prefix)
    (territory_of db region)

-- a prefix without its tildes
abbrev pub without_tildes : List ℕ → List ℕ
without_tildes prefix = encode_utf8_all (filter (λ c. not (c == 126)) (chars prefix))

-- the same prefix without its tildes
abbrev pub national_prefix_digits : List Metadata → Id → Option (List ℕ)
national_prefix_digits db region = option_map without_tildes (national_prefix db region)

-- the id of a calling code's first territory: its main region, or `001` where the code serves none
abbrev pub main_region : List Metadata → ℕ → Option (List ℕ)
main_region db code = option_map id_of (first_of (territories code db))

-- a territory that is no region's: its calling code serves the whole world
abbrev pub is_worldwide : Metadata → Bool
is_worldwide m = bytes_eq (id_of m) (codes "001")
