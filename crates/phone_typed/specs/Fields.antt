-- A field in which a number is typed.
use Rattle.std.specs.Prelude.{ℕ, List, Option}
use Rattle.phone_values.specs.declared.country.Id.{Id}
use Rattle.phone_records.specs.declared.loader.Metadata.{Metadata}
use Rattle.phone_typed.specs.Typed.{typed}

-- its database and hint, and the keys that were pressed
pub record Field : Type 0 where
  pub database : List Metadata
  pub hint : Option Id
  pub keys : List ℕ

-- what it shows
abbrev pub shown : Field → List ℕ
shown f = typed f.database f.hint f.keys
