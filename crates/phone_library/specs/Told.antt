-- What is told of digits of a calling code, as the code holds it.
use Rattle.std.specs.Prelude.{ℕ, List}
use Rattle.std.specs.Option.{option_and_then, option_map_or}
use Rattle.phone_values.specs.Ids.{id_of}
use Rattle.phone_values.specs.declared.kind.«Type».TheVariants.{Unknown}
use Rattle.phone_read.specs.Kinds.{is_known}
use Rattle.phone_library.specs.Kinds.{kind_in, territory_in}
use Rattle.phone_library.specs.declared.queries.NumberFacts.{NumberFacts}
use Rattle.phone_records.specs.declared.loader.Metadata.{Metadata}

-- their region, their kind there, and whether that is known
abbrev pub facts_by : List Metadata → ℕ → List ℕ → NumberFacts
facts_by db code digits =
    let m = territory_in db code digits in
    let kind = option_map_or (λ (m : Metadata). kind_in m digits) m Unknown in
    record {
      region = option_and_then (λ (m : Metadata). option_and_then id_of m.id) m;
      kind = kind;
      is_valid = is_known kind;
    }
