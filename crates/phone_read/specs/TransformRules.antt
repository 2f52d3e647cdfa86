-- Which bytes the transform rules of a database are written with.
use Rattle.std.specs.Prelude.{◌==◌, not, Bool, true, List}
use Rattle.std.specs.List.{list_all}
use Rattle.std.specs.Option.{option_map_or}
use Rattle.phone_records.specs.declared.loader.Metadata.{Metadata}

-- no transform rule of the database has a plus sign
abbrev pub rules_have_no_plus : List Metadata → Bool
rules_have_no_plus db = list_all
    (λ (m : Metadata). option_map_or (list_all (λ b. not (b == 43)))
    m.national_prefix_transform_rule true) db
