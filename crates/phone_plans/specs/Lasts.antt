-- Territories with the last one of their id.
use Rattle.std.specs.Prelude.{ℕ, List, map, Option}
use Rattle.std.specs.Option.{option_copied}
use Rattle.phone_territory.specs.Records.{id_of}
use Rattle.phone_plans.specs.Records.{has_id, last_place, last_with}
use Rattle.phone_plans.specs.declared.of_code.WithLast.{WithLast}
use Rattle.phone_records.specs.declared.loader.Metadata.{Metadata}

-- the last territory of a territory's id
abbrev pub last_of : List Metadata → Metadata → Option Metadata
last_of db m = last_with (id_of m) db

-- a territory, and the last one of its id
abbrev pub with_last : List Metadata → Metadata → Metadata × Option Metadata
with_last db m = (m, last_of db m)

-- the same, as it is lent
abbrev pub seen : WithLast → Metadata × Option Metadata
seen t = (t.territory.now, option_copied t.last)

-- for each territory the place of the last one of its id
abbrev pub last_places : List Metadata → List (Option ℕ)
last_places db = map (λ m. last_place (has_id (id_of m)) db) db
