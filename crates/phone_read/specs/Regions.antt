-- Which region and which territory a number belongs to: after the original's `validator`.
use Rattle.std.specs.Prelude.{ℕ, Bool, false, if◌then◌else◌, List, [], ◌∷◌, codes}
use Rattle.std.specs.Prelude.{Option, None, Some, option_map}
use Rattle.std.specs.List.{find}
use Rattle.std.specs.Option.{option_and_then, option_map_or}
use Rattle.std.specs.Str.{bytes_eq}
use Rattle.either.specs.declared.Either.{Either}
use Rattle.either.specs.declared.Either.TheVariants.{Left, Right}
use Rattle.phone_values.specs.Ids.{name, id_of}
use Rattle.phone_values.specs.declared.country.Id.{Id}
use Rattle.phone_read.specs.Kinds.{belongs_to}
use Rattle.phone_plans.specs.CodeLookUps.{first_of, regions, territories}
use Rattle.phone_plans.specs.Records.{last_with}
use Rattle.phone_records.specs.declared.loader.Metadata.{Metadata}

-- it belongs to the region of this id: to the last record with it
abbrev pub is_of_region : List Metadata → List ℕ → List ℕ → Bool
is_of_region db digits id = option_map_or (belongs_to digits) (last_with id db) false

-- the same of a territory that is given with the last one of its id
abbrev pub is_of_last : List ℕ → Metadata × Option Metadata → Bool
is_of_last digits t = option_map_or (belongs_to digits) t.1 false

-- a region by its id; none where the id is no region's
abbrev pub region_named : List ℕ → Option (Either Id ℕ)
region_named id = option_map (λ i. Left i) (id_of id)

-- of the ids of a code: a sole one counts whatever the digits are, and a sole `001` stands for the
-- code itself; of several the first that the number belongs to, be it a region's id or not
abbrev pub region_among : List Metadata → ℕ → List ℕ → List (List ℕ) → Option (Either Id ℕ)
region_among db code digits [] = None
region_among db code digits (id ∷ []) = if bytes_eq id (codes "001") then Some (Right code)
    else region_named id
region_among db code digits (id ∷ other ∷ ids) = option_and_then region_named
    (find (is_of_region db digits) (id ∷ other ∷ ids))

-- the region of a number of a code, or the code itself where `001` is its sole id
abbrev pub region_of : List Metadata → ℕ → List ℕ → Option (Either Id ℕ)
region_of db code digits = region_among db code digits (regions code db)

-- the territory of such an answer: the last record of the region, or the first territory of the
-- code
abbrev pub territory_of : List Metadata → Either Id ℕ → Option Metadata
territory_of db (Left id) = last_with (name id) db
territory_of db (Right code) = first_of (territories code db)

-- the answer with its territory
abbrev pub with_territory : List Metadata → Either Id ℕ → Either Id ℕ × Option Metadata
with_territory db r = (r, territory_of db r)

-- the territory that a number of a code belongs to
abbrev pub home : List Metadata → ℕ → List ℕ → Option Metadata
home db code digits = option_and_then (territory_of db) (region_of db code digits)
