-- The territory that has digits, as the code holds it.
use Rattle.std.specs.Prelude.{◌≡◌, ℕ, List, IfSome}
use Rattle.phone_library.specs.Kinds.{kind_in}
use Rattle.phone_library.specs.declared.homes.Home.{Home}
use Rattle.phone_records.specs.declared.loader.Metadata.{Metadata}

-- the territory, as it is lent
abbrev pub territory_of : Home → Metadata
territory_of h = h.territory.now

-- where the kind of the digits was told, it is theirs in the territory
abbrev pub TellsKind : List ℕ → Home → Type 0
TellsKind digits h = IfSome h.kind (λ kind. kind ≡ kind_in h.territory.now digits)
