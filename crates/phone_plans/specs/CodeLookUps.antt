-- Territories by calling code, after the original's `metadata/database`, and codes in front of
-- digits, after its `parser/helper`.
use Rattle.std.specs.Prelude.{ℕ, ◌&&◌, not, Bool, if◌then◌else◌, List, [], ◌∷◌, ◌++◌, take, map}
use Rattle.std.specs.Prelude.{filter, reverse, Option, None, Some, codes}
use Rattle.std.specs.List.{list_all, list_any}
use Rattle.std.specs.Str.{bytes_eq}
use Rattle.phone_records.specs.Missing.{first_given}
-- a number's decimal text begins another's
unfoldable pub use Rattle.phone_index.specs.ListedCodes.{begins}
-- the number that a text's first bytes write
pub use Rattle.phone_index.specs.ListedCodes.{front_number}
use Rattle.phone_territory.specs.Records.{code_of, id_of}
use Rattle.phone_plans.specs.Records.{has_code}
use Rattle.phone_records.specs.declared.loader.Metadata.{Metadata}

-- a main territory of its calling code
abbrev pub is_main : Metadata → Bool
is_main m = m.main_country_for_code

-- a territory that isn't
abbrev pub is_other : Metadata → Bool
is_other m = not m.main_country_for_code

-- a main territory of a calling code
abbrev pub is_main_of : ℕ → Metadata → Bool
is_main_of code m = has_code code m && m.main_country_for_code

-- a territory of a calling code that isn't a main one
abbrev pub is_other_of : ℕ → Metadata → Bool
is_other_of code m = has_code code m && not m.main_country_for_code

-- the territories of a code: the main ones, latest first, then the others in order of arrival
abbrev pub territories : ℕ → List Metadata → List Metadata
territories code db = reverse (filter (is_main_of code) db) ++ filter (is_other_of code) db

-- their ids
abbrev pub regions : ℕ → List Metadata → List (List ℕ)
regions code db = map id_of (territories code db)

-- a code is listed if it has a territory
abbrev pub is_listed : ℕ → List Metadata → Bool
is_listed code db = list_any (has_code code) db

-- the first of a list
abbrev pub first_of : {X : Type 0} → List X → Option X
first_of [] = None
first_of (x ∷ xs) = Some x

-- a list that has something in it
abbrev pub if_any : {X : Type 0} → List X → Option (List X)
if_any [] = None
if_any (x ∷ xs) = Some (x ∷ xs)

-- a number as a calling code, where it is listed
abbrev pub listed_if_some : Option ℕ → List Metadata → Option ℕ
listed_if_some None db = None
listed_if_some (Some code) db = if is_listed code db then Some code else None

-- the calling code that the first k bytes write, where it is listed
abbrev pub listed_front : List Metadata → List ℕ → ℕ → Option ℕ
listed_front db text k = listed_if_some (front_number k text) db

-- the shortest front of one to three digits that is listed; none where the text begins with `0`
abbrev pub shortest : List Metadata → List ℕ → Option ℕ
shortest db text = if bytes_eq (take 1 text) (codes "0") then None
    else first_given (map (listed_front db text) (1 ∷ 2 ∷ 3 ∷ []))

-- no listed code's decimal text begins another listed code's
abbrev pub is_prefix_free : List Metadata → Bool
is_prefix_free db = list_all (λ m. list_all (λ n. not (begins (code_of m) (code_of n))) db) db
