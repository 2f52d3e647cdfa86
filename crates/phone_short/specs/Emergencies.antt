-- Emergency numbers of a region, by the region's record: as libphonenumber has them.
use Rattle.std.specs.Prelude.{ℕ, ◌&&◌, Bool, false, if◌then◌else◌, List, [], ◌∷◌, map, codes}
use Rattle.std.specs.List.{list_any}
use Rattle.std.specs.Option.{option_map_or}
use Rattle.std.specs.Str.{bytes_eq}
use Rattle.phone_records.specs.declared.loader.Descriptor.{Descriptor}
use Rattle.phone_records.specs.declared.loader.Metadata.{Metadata}
use Rattle.phone_territory.specs.First.{is_whole_match}
use Rattle.phone_territory.specs.Records.{id_of, pattern_of}
use Rattle.phone_short.specs.Texts.{digits_in, is_dialled_within}

-- digits are an emergency number where the pattern of these matches all of them
abbrev pub is_emergency_number : Metadata → List ℕ → Bool
is_emergency_number m digits = option_map_or
    (λ (d : Descriptor). is_whole_match (pattern_of d) digits) m.emergency false

-- the fronts of digits, from none of them to all
abbrev pub fronts : List ℕ → List (List ℕ)
fronts [] = [] ∷ []
fronts (d ∷ ds) = [] ∷ map (λ front. d ∷ front) (fronts ds)

-- digits begin with an emergency number
abbrev pub begins_with_emergency : Metadata → List ℕ → Bool
begins_with_emergency m digits = list_any (is_emergency_number m) (fronts digits)

-- the regions in which an emergency number connects only where nothing follows it
abbrev pub exact_regions : List (List ℕ)
exact_regions = codes "BR" ∷ codes "CL" ∷ codes "NI" ∷ []

-- a region is one of these
abbrev pub is_exact : Metadata → Bool
is_exact m = list_any (bytes_eq (id_of m)) exact_regions

-- digits reach emergency services where they begin with an emergency number, in exact regions where
-- they are one
abbrev pub connects : Metadata → List ℕ → Bool
connects m digits = if is_exact m then is_emergency_number m digits
    else begins_with_emergency m digits

-- a text is an emergency number where it is dialled within the region and its digits are one
abbrev pub is_emergency_in : Metadata → List ℕ → Bool
is_emergency_in m t = is_dialled_within t && is_emergency_number m (digits_in t)

-- it reaches emergency services where it is dialled within the region and its digits do
abbrev pub reaches_emergency_in : Metadata → List ℕ → Bool
reaches_emergency_in m t = is_dialled_within t && connects m (digits_in t)
