-- What contracts see of a database: its records, in the order in which they were handed in. After
-- the original's `metadata`.
use Rattle.std.specs.Prelude.{ℕ, suc, ◌==◌, Bool, if◌then◌else◌, List, [], ◌∷◌, ◌++◌, map, Option}
use Rattle.std.specs.Prelude.{None, Some, option_map}
use Rattle.std.specs.List.{list_any}
use Rattle.std.specs.Option.{option_or}
use Rattle.std.specs.Str.{bytes_eq}
use Rattle.phone_records.specs.declared.loader.Metadata.{Metadata}
use Rattle.phone_territory.specs.Records.{code_of, id_of}

-- the last that passes
abbrev pub last_where : {X : Type 0} → (X → Bool) → List X → Option X
last_where passes [] = None
last_where passes (x ∷ xs) = option_or (last_where passes xs) (if passes x then Some x else None)

-- the place of the last that passes
abbrev pub last_place : {X : Type 0} → (X → Bool) → List X → Option ℕ
last_place passes [] = None
last_place passes (x ∷ xs) = option_or (option_map suc (last_place passes xs))
    (if passes x then Some 0 else None)

-- the places of those that pass, in their order
abbrev pub places_where : {X : Type 0} → (X → Bool) → List X → List ℕ
places_where passes [] = []
places_where passes (x ∷ xs) = (if passes x then 0 ∷ [] else []) ++ map suc (places_where passes xs)

-- a territory has this id
abbrev pub has_id : List ℕ → Metadata → Bool
has_id id m = bytes_eq (id_of m) id

-- a territory has this calling code
abbrev pub has_code : ℕ → Metadata → Bool
has_code code m = code_of m == code

-- the last territory with this id
abbrev pub last_with : List ℕ → List Metadata → Option Metadata
last_with id db = last_where (has_id id) db

-- of each id the last territory, in order of arrival: those after which none has the same id
abbrev pub lasts : List Metadata → List Metadata
lasts [] = []
lasts (m ∷ ms) = if list_any (has_id (id_of m)) ms then lasts ms else m ∷ lasts ms
