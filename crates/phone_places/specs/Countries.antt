-- The country of a number: as libphonenumber names it where no area is known.
use Rattle.std.specs.Prelude.{ℕ, Bool, List, [], ◌∷◌, filter, Option, None, Some}
use Rattle.std.specs.Option.{option_and_then, option_map_or}
use Rattle.phone_languages.specs.Atlases.{name_in}
use Rattle.phone_languages.specs.declared.atlas.Atlas.{Atlas}
use Rattle.phone_library.specs.Kinds.{kind_in}
use Rattle.phone_plans.specs.Records.{has_code}
use Rattle.phone_records.specs.declared.loader.Metadata.{Metadata}
use Rattle.phone_read.specs.Kinds.{is_known}
use Rattle.phone_values.specs.Ids.{id_of, name}
use Rattle.phone_values.specs.Numbers.{text_of}
use Rattle.phone_values.specs.declared.country.Id.{Id}
use Rattle.phone_values.specs.declared.reading.Reading.{Reading}

-- a territory knows digits: their kind there is known
abbrev pub knows : List ℕ → Metadata → Bool
knows digits m = is_known (kind_in m digits)

-- the only one of a list
abbrev pub sole : {X : Type 0} → List X → Option X
sole [] = None
sole (x ∷ []) = Some x
sole (x ∷ y ∷ ys) = None

-- of a code's territories those that may be the country of digits: a sole one; of several those
-- that know them
abbrev pub candidates : List ℕ → List Metadata → List Metadata
candidates digits [] = []
candidates digits (m ∷ []) = m ∷ []
candidates digits (m ∷ n ∷ ms) = filter (knows digits) (m ∷ n ∷ ms)

-- the territory that is a number's country: the only one that may be
abbrev pub territory_of : List Metadata → Reading → Option Metadata
territory_of db n = sole (candidates (text_of n.national) (filter (has_code n.code.value) db))

-- its region, where it is a region's
abbrev pub country_of : List Metadata → Reading → Option Id
country_of db n =
    option_and_then (λ (m : Metadata). option_and_then id_of m.id) (territory_of db n)

-- the name of a region; empty where there is none
abbrev pub region_name : Atlas → Option Id → List ℕ
region_name atlas region = option_map_or (λ id. name_in atlas (name id)) region []

-- the name of a number's country
abbrev pub country_name : List Metadata → Atlas → Reading → List ℕ
country_name db atlas n = region_name atlas (country_of db n)
