-- What contracts see of a territory: its record. After the original's `metadata`.
use Rattle.std.specs.Prelude.{ℕ, ◌==◌, ◌&&◌, ◌||◌, Bool, List, [], length, reverse, unwrap_or}
use Rattle.std.specs.List.{list_any}
use Rattle.phone_territory.specs.First.{at_start, led_by}
use Rattle.phone_records.specs.declared.loader.Descriptor.{Descriptor}
use Rattle.phone_records.specs.declared.loader.Format.{Format}
use Rattle.phone_records.specs.declared.loader.Metadata.{Metadata}

-- the text of a descriptor's pattern
abbrev pub pattern_of : Descriptor → List ℕ
pattern_of d = unwrap_or d.national_number []

-- the list of possible lengths is empty or has this one
abbrev pub allows_length : Descriptor → ℕ → Bool
allows_length d n = (length d.possible_length == 0) || list_any (λ k. k == n) d.possible_length

-- a text is such a number: its length in bytes is allowed, and the pattern's first match begins at
-- its first byte
abbrev pub matches : Descriptor → List ℕ → Bool
matches d text = allows_length d (length text) && at_start (pattern_of d) text

-- a layout is meant for these digits
abbrev pub is_led : List ℕ → Format → Bool
is_led digits f = led_by digits (reverse f.leading_digits)

-- a territory's id; every territory of a database has one
abbrev pub id_of : Metadata → List ℕ
id_of m = unwrap_or m.id []

-- its calling code, which every territory of a database has as well
abbrev pub code_of : Metadata → ℕ
code_of m = unwrap_or m.country_code 0
