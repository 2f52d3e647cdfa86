-- Values at the keys of an object.
use Rattle.std.specs.Prelude.{ℕ, ◌^◌, nat_lt, List, [], ◌∷◌, Option, Some, None, Bool, false}
use Rattle.std.specs.Prelude.{unwrap_or, if◌then◌else◌, option_map, option_and_then}
use Rattle.std.specs.List.{filter_map}
use Rattle.std.specs.Option.{option_map_or}
use Rattle.serde_json.specs.Data.{Data, null, boolean, number, string, array, object, Items}
use Rattle.serde_json.specs.Data.{no_items, item}
use Rattle.serde_json.specs.Find.{get, as_bool, as_number, as_str, as_array, as_u64}

-- `null` is nothing
abbrev pub not_null : Data → Option Data
not_null null = None
not_null (boolean b) = Some (boolean b)
not_null (number n) = Some (number n)
not_null (string s) = Some (string s)
not_null (array ds) = Some (array ds)
not_null (object ms) = Some (object ms)

-- the value at a key, which may be absent or `null`
abbrev pub field : List ℕ → Data → Option Data
field key d = option_and_then not_null (get key d)

-- a number of at most 65535
abbrev pub small : ℕ → Option ℕ
small n = if nat_lt n (2 ^ 16) then Some n else None

-- the number that a value is, where it is whole and small
abbrev pub as_small : Data → Option ℕ
as_small d = option_and_then small (option_and_then as_u64 (as_number d))

-- the items of an array, in their order
abbrev pub listed : Items → List Data
listed no_items = []
listed (item d ds) = d ∷ listed ds

-- the items that a value has, if it is an array
abbrev pub as_list : Data → Option (List Data)
as_list d = option_map listed (as_array d)

-- the items that a value has
abbrev pub items_in : Data → List Data
items_in d = unwrap_or (as_list d) []

-- the text at a key
abbrev pub text_at : List ℕ → Data → Option (List ℕ)
text_at key d = option_and_then as_str (field key d)

-- the number at a key
abbrev pub number_at : List ℕ → Data → Option ℕ
number_at key d = option_and_then as_small (field key d)

-- the truth value at a key, false where there is none
abbrev pub truth_at : List ℕ → Data → Bool
truth_at key d = unwrap_or (option_and_then as_bool (field key d)) false

-- the items of the list at a key
abbrev pub items_at : List ℕ → Data → List Data
items_at key d = option_map_or items_in (field key d) []

-- the list of texts at a key
abbrev pub texts_at : List ℕ → Data → List (List ℕ)
texts_at key d = filter_map as_str (items_at key d)

-- the list of numbers at a key
abbrev pub numbers_at : List ℕ → Data → List ℕ
numbers_at key d = filter_map as_small (items_at key d)
