-- How records are written with serde: as objects, with a member for each field, in their order.
use Rattle.std.specs.Prelude.{◌≡◌, ℕ, Bool, true, false, not, List, [], ◌∷◌, ◌++◌, ⊤}
use Rattle.std.specs.Prelude.{Option, Some, None, codes, length, map}
use Rattle.std.specs.List.{filter, flat_map}
use Rattle.std.specs.Str.{bytes_eq}
use Rattle.serde.specs.Event.{Event, Log, Logs, Then, boolean, unsigned, text, nothing}
use Rattle.serde.specs.Event.{seq_begins, seq_ends, map_begins, map_ends, field_key}
use Rattle.serde.specs.declared.name.Case.TheVariants.{AsIs}
use Rattle.phone_records.specs.declared.loader.Defaults.{Defaults}
use Rattle.phone_records.specs.declared.loader.Descriptor.{Descriptor}
use Rattle.phone_records.specs.declared.loader.Format.{Format}
use Rattle.phone_records.specs.declared.loader.Metadata.{Metadata}

-- a member of an object: its key, and what its value is written as
abbrev pub Member : Type 0
Member = List ℕ × List Event

-- members are written in turn, each key before its value
abbrev pub members_written : List Member → List Event
members_written ms = flat_map (λ m. field_key m.0 AsIs ∷ m.1) ms

-- an object says how many members it has, and has them
abbrev pub object : List Member → List Event
object ms = map_begins (Some (length ms)) ∷ (members_written ms ++ map_ends ∷ [])

-- what may be absent is nothing then
abbrev pub given : {A : Type 0} → (A → List Event) → Option A → List Event
given f None = nothing ∷ []
given f (Some x) = f x

-- a list says how many items it has, and has them
abbrev pub sequence : {A : Type 0} → (A → List Event) → List A → List Event
sequence f xs = seq_begins (Some (length xs)) ∷ (flat_map f xs ++ seq_ends ∷ [])

-- a text
abbrev pub text_written : List ℕ → List Event
text_written t = text t ∷ []

-- a number
abbrev pub number_written : ℕ → List Event
number_written n = unsigned n ∷ []

-- the members of a descriptor
abbrev pub descriptor_members : Descriptor → List Member
descriptor_members d =
    (codes "national_number", given text_written d.national_number) ∷
    (codes "possible_length", sequence number_written d.possible_length) ∷
    (codes "possible_local_length", sequence number_written d.possible_local_length) ∷
    (codes "example", given text_written d.example) ∷ []

-- the members of a layout
abbrev pub format_members : Format → List Member
format_members f =
    (codes "pattern", given text_written f.pattern) ∷
    (codes "format", given text_written f.format) ∷
    (codes "leading_digits", sequence text_written f.leading_digits) ∷ (
      codes "national_prefix_formatting_rule",
      given text_written f.national_prefix_formatting_rule,
    ) ∷ (
      codes "national_prefix_optional_when_formatting",
      boolean f.national_prefix_optional_when_formatting ∷ [],
    ) ∷
    (codes "domestic_carrier", given text_written f.domestic_carrier) ∷ []

-- a descriptor
abbrev pub descriptor_written : Descriptor → List Event
descriptor_written d = object (descriptor_members d)

-- a layout
abbrev pub format_written : Format → List Event
format_written f = object (format_members f)

-- the members of a territory's defaults
abbrev pub defaults_members : Defaults → List Member
defaults_members d =
    (codes "format", format_written d.format) ∷
    (codes "descriptor", descriptor_written d.descriptor) ∷ []

-- the members that are descriptors of a territory
abbrev pub kind_members : Metadata → List Member
kind_members m =
    (codes "general", given descriptor_written m.general) ∷
    (codes "fixed_line", given descriptor_written m.fixed_line) ∷
    (codes "mobile", given descriptor_written m.mobile) ∷
    (codes "toll_free", given descriptor_written m.toll_free) ∷
    (codes "premium_rate", given descriptor_written m.premium_rate) ∷
    (codes "shared_cost", given descriptor_written m.shared_cost) ∷
    (codes "personal_number", given descriptor_written m.personal_number) ∷
    (codes "voip", given descriptor_written m.voip) ∷
    (codes "pager", given descriptor_written m.pager) ∷
    (codes "uan", given descriptor_written m.uan) ∷
    (codes "emergency", given descriptor_written m.emergency) ∷
    (codes "voicemail", given descriptor_written m.voicemail) ∷
    (codes "short_code", given descriptor_written m.short_code) ∷
    (codes "standard_rate", given descriptor_written m.standard_rate) ∷
    (codes "carrier", given descriptor_written m.carrier) ∷
    (codes "no_international", given descriptor_written m.no_international) ∷ []

-- those that are texts of its prefixes
abbrev pub prefix_members : Metadata → List Member
prefix_members m =
    (codes "international_prefix", given text_written m.international_prefix) ∷ (
      codes "preferred_international_prefix",
      given text_written m.preferred_international_prefix,
    ) ∷
    (codes "national_prefix", given text_written m.national_prefix) ∷
    (codes "preferred_extension_prefix", given text_written m.preferred_extension_prefix) ∷
    (codes "national_prefix_for_parsing", given text_written m.national_prefix_for_parsing) ∷ (
      codes "national_prefix_transform_rule",
      given text_written m.national_prefix_transform_rule,
    ) ∷ []

-- its id and code
abbrev pub code_members : Metadata → List Member
code_members m =
    (codes "id", given text_written m.id) ∷
    (codes "country_code", given number_written m.country_code) ∷ []

-- its layouts, and what stands behind them
abbrev pub layout_members : Metadata → List Member
layout_members m =
    (codes "formats", sequence format_written m.formats) ∷
    (codes "international_formats", sequence format_written m.international_formats) ∷
    (codes "main_country_for_code", boolean m.main_country_for_code ∷ []) ∷
    (codes "leading_digits", given text_written m.leading_digits) ∷
    (codes "mobile_number_portable", boolean m.mobile_number_portable ∷ []) ∷
    (codes "defaults", object (defaults_members m.defaults)) ∷ []

-- the members of a territory
abbrev pub metadata_members : Metadata → List Member
metadata_members m =
    kind_members m ++ (code_members m ++ (prefix_members m ++ layout_members m))

-- where the events so far are known, they grow by these
unfoldable pub GrowsBy : List Event → Log → Log → Type 0
GrowsBy events None new = ⊤
GrowsBy events (Some before) new = new ≡ Some (before ++ events)

-- a key is written, then a value
abbrev pub WritesMember : {A : Type 0} → (A → Log → Log → Type 0) → List ℕ → A → Log → Log →
    Type 0
WritesMember w key value = Then (λ old new. Logs old new (field_key key AsIs)) (w value)

-- a territory's defaults
abbrev pub defaults_written : Defaults → List Event
defaults_written d = object (defaults_members d)

-- a territory
abbrev pub metadata_written : Metadata → List Event
metadata_written m = object (metadata_members m)

-- the keys of members, in their order
abbrev pub keys : List Member → List (List ℕ)
keys ms = map (λ m. m.0) ms

-- all members but those of a key
abbrev pub but_for : List ℕ → List Member → List Member
but_for key ms = filter (λ m. not (bytes_eq m.0 key)) ms

-- whether a value is written as nothing
abbrev pub is_nothing : List Event → Bool
is_nothing (nothing ∷ []) = true
is_nothing _ = false

-- the keys of the members that are something
abbrev pub needed_keys : List Member → List (List ℕ)
needed_keys ms = keys (filter (λ m. not (is_nothing m.1)) ms)
