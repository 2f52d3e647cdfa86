-- What tells where a number is at home: its region, and the territory of that.
use Rattle.std.specs.Prelude.{◌≡◌, ℕ, Bool, not, List, Option, IfSome, filter, option_map, reverse}
use Rattle.std.specs.List.{find}
use Rattle.std.specs.Option.{option_copied, option_or}
use Rattle.either.specs.declared.Either.{Either}
use Rattle.phone_values.specs.declared.country.Id.{Id}
use Rattle.phone_read.specs.Kinds.{type_of}
use Rattle.phone_territory.specs.Records.{id_of}
use Rattle.phone_read.specs.Regions.{region_named}
use Rattle.phone_read.specs.declared.validator.Found.{Found}
use Rattle.phone_read.specs.declared.validator.Origin.{Origin}
use Rattle.phone_records.specs.declared.loader.Metadata.{Metadata}

-- both, as they are lent
abbrev pub told : Origin → Either Id ℕ × Option Metadata
told o = (o.region, option_copied o.territory)

-- where the kind was told, it is that of the digits in the territory
abbrev pub TellsKind : List ℕ → Origin → Type 0
TellsKind digits o = IfSome o.kind (λ kind. IfSome o.territory (λ m. kind ≡ type_of m.now digits))

-- a territory, and the last one of its id
abbrev pub Given : Type 0
Given = Metadata × Option Metadata

-- of territories in order of arrival the last main one that passes
abbrev pub latest_main : (Given → Bool) → List Given → Option Given
latest_main p ts = find p (reverse (filter (λ (t : Given). t.0.main_country_for_code) ts))

-- the first that isn't a main one and passes
abbrev pub first_other : (Given → Bool) → List Given → Option Given
first_other p ts = find p (filter (λ (t : Given). not t.0.main_country_for_code) ts)

-- the one, or else the other
abbrev pub first_given : (Given → Bool) → List Given → Option Given
first_given p ts = option_or (latest_main p ts) (first_other p ts)

-- the region that a territory's id names, with the last one of its id
abbrev pub by_name : Given → Option (Either Id ℕ × Option Metadata)
by_name t = option_map (λ (r : Either Id ℕ). (r, t.1)) (region_named (id_of t.0))

-- the same, as they are lent
abbrev pub shown : Found → Given
shown f = (f.territory.now, option_copied f.last)

-- where the kind was told, it is that of the digits in the last one
abbrev pub FoundKind : List ℕ → Found → Type 0
FoundKind digits f = IfSome f.kind (λ kind. IfSome f.last (λ m. kind ≡ type_of m.now digits))
