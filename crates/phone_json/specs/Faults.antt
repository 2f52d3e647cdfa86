-- What is wrong with a database text: the first fault of its records, field by field.
use Rattle.std.specs.Prelude.{ℕ, List, [], ◌∷◌, ◌++◌, map, Option, Some, None, Bool, not, codes}
use Rattle.std.specs.Prelude.{bytes_eq, option_and_then, option_map}
use Rattle.std.specs.Cmp.Lexicographic.{slice_cmp}
use Rattle.std.specs.List.{filter, fold, list_any}
use Rattle.std.specs.Option.{option_map_or}
use Rattle.std.specs.Ordering.{nat_cmp, min_by_ordering}
use Rattle.serde_json.specs.Data.{Data, Members, no_members, member}
use Rattle.serde_json.specs.Find.{as_bool, as_str, as_object}
use Rattle.phone_records.specs.Missing.{first_given}
use Rattle.phone_json.specs.Fields.{field, as_small, as_list}

-- a refusal as it is told: its number, and its texts
abbrev pub Refusal : Type 0
Refusal = ℕ × List (List ℕ)

-- the text is no JSON
abbrev pub no_json : Refusal
no_json = (3, [])

-- a record of this kind may not have this key
abbrev pub unknown_key : List ℕ → List ℕ → Refusal
unknown_key phase key = (2, phase ∷ key ∷ [])

-- in a record of this kind the value of this field is of the wrong kind
abbrev pub wrong_kind : List ℕ → List ℕ → Refusal
wrong_kind phase name = (4, phase ∷ name ∷ [])

-- the keys of an object
abbrev pub keys_in : Members → List (List ℕ)
keys_in no_members = []
keys_in (member key d ms) = key ∷ keys_in ms

-- the lesser of two texts in the order of their bytes, where the first may be missing
abbrev pub lesser : Option (List ℕ) → List ℕ → Option (List ℕ)
lesser None key = Some key
lesser (Some best) key = Some (min_by_ordering (slice_cmp nat_cmp best key) best key)

-- the least of some texts
abbrev pub least : List (List ℕ) → Option (List ℕ)
least = fold lesser None

-- whether a key is none of these
abbrev pub is_unknown : List (List ℕ) → List ℕ → Bool
is_unknown known key = not (list_any (λ name. bytes_eq name key) known)

-- the least of the keys that aren't among the known ones
abbrev pub least_unknown : List (List ℕ) → Members → Option (List ℕ)
least_unknown known ms = least (filter (is_unknown known) (keys_in ms))

-- a key that a record of this kind may not have
abbrev pub unknown_fault : List ℕ → List (List ℕ) → Data → Option Refusal
unknown_fault phase known d = option_map (unknown_key phase)
    (option_and_then (least_unknown known) (as_object d))

-- a value that can't be taken for what it must be is refused
abbrev pub fault_if_none : {X : Type 0} → Refusal → Option X → Option Refusal
fault_if_none wrong None = Some wrong
fault_if_none wrong (Some x) = None

-- a value that must be a text
abbrev pub text_fault : Refusal → Data → Option Refusal
text_fault wrong d = fault_if_none wrong (as_str d)

-- a value that must be a small number
abbrev pub number_fault : Refusal → Data → Option Refusal
number_fault wrong d = fault_if_none wrong (as_small d)

-- a value that must be a truth value
abbrev pub truth_fault : Refusal → Data → Option Refusal
truth_fault wrong d = fault_if_none wrong (as_bool d)

-- a value that must be a list: the first fault of its items
abbrev pub list_fault : (Refusal → Data → Option Refusal) → Refusal → Data → Option Refusal
list_fault fault wrong d = option_map_or (λ items. first_given (map (fault wrong) items))
    (as_list d) (Some wrong)

-- a value that must be a record: the fault inside it
abbrev pub record_fault : (Data → Option Refusal) → Refusal → Data → Option Refusal
record_fault fault wrong d = option_map_or (λ ms. fault d) (as_object d) (Some wrong)

-- a fault of the value at a key, where there is one
abbrev pub fault_at : (Refusal → Data → Option Refusal) → List ℕ → Data → List ℕ → Option Refusal
fault_at fault phase d key = option_and_then (fault (wrong_kind phase key)) (field key d)

-- the fields of a descriptor
abbrev pub descriptor_keys : List (List ℕ)
descriptor_keys = codes "national_number" ∷ codes "possible_length" ∷
    codes "possible_local_length" ∷ codes "example" ∷ []

-- the first fault of a descriptor
unfoldable pub descriptor_fault : Data → Option Refusal
descriptor_fault d =
    let phase = codes "descriptor" in
    first_given
    (unknown_fault phase descriptor_keys d
    ∷ fault_at text_fault phase d (codes "national_number")
    ∷ fault_at (list_fault number_fault) phase d (codes "possible_length")
    ∷ fault_at (list_fault number_fault) phase d (codes "possible_local_length")
    ∷ fault_at text_fault phase d (codes "example")
    ∷ [])

-- the fields of a layout
abbrev pub format_keys : List (List ℕ)
format_keys =
    codes "pattern" ∷ codes "format" ∷ codes "leading_digits" ∷
    codes "national_prefix_formatting_rule"
    ∷ codes "national_prefix_optional_when_formatting" ∷ codes "domestic_carrier" ∷ []

-- the first fault of a layout
unfoldable pub format_fault : Data → Option Refusal
format_fault d =
    let phase = codes "format" in
    first_given
    (unknown_fault phase format_keys d
    ∷ fault_at text_fault phase d (codes "pattern")
    ∷ fault_at text_fault phase d (codes "format")
    ∷ fault_at (list_fault text_fault) phase d (codes "leading_digits")
    ∷ fault_at text_fault phase d (codes "national_prefix_formatting_rule")
    ∷ fault_at truth_fault phase d (codes "national_prefix_optional_when_formatting")
    ∷ fault_at text_fault phase d (codes "domestic_carrier")
    ∷ [])

-- the fields of the defaults
abbrev pub defaults_keys : List (List ℕ)
defaults_keys = codes "format" ∷ codes "descriptor" ∷ []

-- the first fault of the defaults
unfoldable pub defaults_fault : Data → Option Refusal
defaults_fault d =
    let phase = codes "defaults" in
    first_given
    (unknown_fault phase defaults_keys d
    ∷ fault_at (record_fault format_fault) phase d (codes "format")
    ∷ fault_at (record_fault descriptor_fault) phase d (codes "descriptor")
    ∷ [])

-- a territory's descriptors
abbrev pub kind_keys : List (List ℕ)
kind_keys =
    codes "general" ∷ codes "fixed_line" ∷ codes "mobile" ∷ codes "toll_free" ∷
    codes "premium_rate" ∷ codes "shared_cost"
    ∷ codes "personal_number" ∷ codes "voip" ∷ codes "pager" ∷ codes "uan" ∷ codes "emergency" ∷
    codes "voicemail"
    ∷ codes "short_code" ∷ codes "standard_rate" ∷ codes "carrier" ∷ codes "no_international" ∷ []

-- what is dialled or written in front of a territory's numbers
abbrev pub prefix_keys : List (List ℕ)
prefix_keys =
    codes "international_prefix" ∷ codes "preferred_international_prefix" ∷ codes "national_prefix"
    ∷ codes "preferred_extension_prefix" ∷ codes "national_prefix_for_parsing" ∷
    codes "national_prefix_transform_rule" ∷ []

-- the fields of a territory that are neither
abbrev pub other_keys : List (List ℕ)
other_keys =
    codes "id" ∷ codes "country_code" ∷ codes "formats" ∷ codes "international_formats" ∷
    codes "main_country_for_code"
    ∷ codes "leading_digits" ∷ codes "mobile_number_portable" ∷ codes "defaults" ∷ []

-- the fields of a territory
abbrev pub metadata_keys : List (List ℕ)
metadata_keys = kind_keys ++ (prefix_keys ++ other_keys)

-- the first fault of a territory in its fields behind the prefixes
unfoldable pub fault_behind_prefixes : Data → Option Refusal
fault_behind_prefixes d =
    let phase = codes "metadata" in
    first_given
    (fault_at (list_fault (record_fault format_fault)) phase d (codes "formats")
    ∷ fault_at (list_fault (record_fault format_fault)) phase d (codes "international_formats")
    ∷ fault_at truth_fault phase d (codes "main_country_for_code")
    ∷ fault_at text_fault phase d (codes "leading_digits")
    ∷ fault_at truth_fault phase d (codes "mobile_number_portable")
    ∷ fault_at (record_fault defaults_fault) phase d (codes "defaults")
    ∷ [])

-- the first fault of a territory
unfoldable pub metadata_fault : Data → Option Refusal
metadata_fault d =
    let phase = codes "metadata" in
    first_given
    (unknown_fault phase metadata_keys d
    ∷ first_given (map (fault_at (record_fault descriptor_fault) phase d) kind_keys)
    ∷ fault_at text_fault phase d (codes "id")
    ∷ fault_at number_fault phase d (codes "country_code")
    ∷ first_given (map (fault_at text_fault phase d) prefix_keys)
    ∷ fault_behind_prefixes d
    ∷ [])

-- the first fault of a database: it must be a list of records
abbrev pub database_fault : Data → Option Refusal
database_fault = list_fault (record_fault metadata_fault)
    (wrong_kind (codes "database") (codes "records"))
