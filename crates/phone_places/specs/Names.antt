-- The region that a text names, as people write it.
use Rattle.std.specs.Prelude.{ℕ, List, Option}
use Rattle.std.specs.Option.{option_and_then, option_or}
use Rattle.phone_plans.specs.CodeLookUps.{first_of, territories}
use Rattle.phone_records.specs.declared.loader.Metadata.{Metadata}
use Rattle.phone_territory.specs.Records as records
use Rattle.phone_values.specs.Ids as ids
use Rattle.phone_values.specs.Numbers.{number_in}
use Rattle.phone_values.specs.declared.country.Id.{Id}
use Rattle.phone_places.specs.Folds.{fold_text}
use Rattle.phone_places.specs.Ids.{id_in}
use Rattle.phone_places.specs.Tables.{region_in}
use Rattle.phone_places.specs.declared.countries.Entry.{Entry}

-- the region of a calling code: that of the first of its territories
abbrev pub region_of : List Metadata → ℕ → Option Id
region_of db code =
    option_and_then (λ m. ids.id_of (records.id_of m)) (first_of (territories code db))

-- the region whose calling code a text is: digits, before which one plus sign may stand
abbrev pub code_region : List Metadata → List ℕ → Option Id
code_region db text = option_and_then (region_of db) (number_in 16 text)

-- the region that a text names: by its id, else by a name of the table, else by its calling code
abbrev pub region_named : List Entry → List Metadata → List ℕ → Option Id
region_named table db text =
    option_or (id_in text) (option_or (region_in table (fold_text text)) (code_region db text))
