-- What a database lists, as bytes.
use Rattle.std.specs.Prelude.{ℕ, List}
use Rattle.std.specs.List.{flat_map}
use Rattle.phone_values.specs.Ids.{name}
use Rattle.phone_records.specs.declared.loader.Metadata.{Metadata}
use Rattle.phone_engine.specs.Listed.{listed_regions}

-- the ids of the regions that have a territory, one behind the other
abbrev pub region_names : List Metadata → List ℕ
region_names db = flat_map name (listed_regions db)
