-- What the index of territories finds.
use Rattle.std.specs.Prelude.{◌≡◌, ℕ, List, filter, length, map}
use Rattle.std.specs.Set.{distinct_count}
use Rattle.std.specs.Str.{bytes_eq}
use Rattle.phone_index.specs.ListedCodes.{is_in}
use Rattle.phone_index.specs.Orders as placed
use Rattle.phone_plans.specs.CodeLookUps.{is_listed}
use Rattle.phone_plans.specs.Lasts.{last_places}
use Rattle.phone_plans.specs.Records.{has_code, has_id, last_place, places_where}
use Rattle.phone_plans.specs.declared.index.Index.{Index}
use Rattle.phone_records.specs.declared.loader.Metadata.{Metadata}
use Rattle.phone_territory.specs.Records.{id_of}

-- the number of different ids
abbrev pub count_of_ids : List Metadata → ℕ
count_of_ids db = distinct_count bytes_eq (map id_of db)

-- of these territories it finds the last one of each id, has each id once, finds those of each
-- calling code in their order and the codes that are listed, and for each territory the last one of
-- its id
abbrev pub IsIndexOf : Index → List Metadata → Type 0
IsIndexOf index db =
    ((id : List ℕ) → placed.place_of id index.by_id ≡ last_place (has_id id) db) ×
    (length index.by_id ≡ count_of_ids db) ×
    ((code : ℕ) → map (λ e. e.place) (filter (placed.has_code code) index.by_code) ≡
    places_where (has_code code) db) ×
    ((code : ℕ) → is_in code index.codes ≡ is_listed code db) ×
    (index.lasts.items ≡ last_places db)
