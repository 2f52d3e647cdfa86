-- What is compiled of records is of those records.
use Rattle.std.specs.Prelude.{◌≡◌, ℕ, List, length}
use Rattle.phone_index.specs.Orders.{place_of}
use Rattle.phone_index.specs.declared.sorted.Named.{Named}
use Rattle.phone_meta.specs.declared.patterns.Patterns.{Patterns}
use Rattle.phone_pattern.specs.Rules.{first_group_pattern}
use Rattle.phone_plans.specs.Index.{count_of_ids}
use Rattle.phone_plans.specs.Records.{has_id, last_place}
use Rattle.phone_records.specs.declared.loader.Metadata.{Metadata}
use Rattle.phone_territory.specs.Kinds.{Kinds, kinds_of}

-- descriptors, and what is compiled besides them, are a record's
abbrev pub IsOfRecord : Metadata → Kinds → Patterns → Type 0
IsOfRecord m descriptors patterns =
    (descriptors ≡ kinds_of m) ×
    (patterns.international_prefix ≡ m.international_prefix) ×
    (patterns.national_prefix_for_parsing ≡ m.national_prefix_for_parsing) ×
    (patterns.leading_digits ≡ m.leading_digits) ×
    (patterns.formats.items ≡ m.formats) ×
    (patterns.international_formats.items ≡ m.international_formats)

-- the index finds the last record of each id and has each id once, and the pattern beside the
-- records' is that of a template's first group
abbrev pub IsTreeOf : List Named → List ℕ → List Metadata → Type 0
IsTreeOf by_id first_group db =
    ((id : List ℕ) → place_of id by_id ≡ last_place (has_id id) db) ×
    (length by_id ≡ count_of_ids db) ×
    (first_group ≡ first_group_pattern)
