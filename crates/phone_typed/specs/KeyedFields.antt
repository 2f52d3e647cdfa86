-- A field into which a number is keyed, as libphonenumber shows it.
use Rattle.std.specs.Prelude.{ℕ, ◌==◌, ◌&&◌, Bool, false, if◌then◌else◌, List, [], length}
use Rattle.std.specs.Prelude.{Option, Some}
use Rattle.std.specs.Option.{option_and_then}
use Rattle.phone_values.specs.declared.country.Id.{Id}
use Rattle.phone_library_text.specs.Letters.{value_of}
use Rattle.phone_plans.specs.CodeLookUps.{first_of, territories}
use Rattle.phone_plans.specs.Records.{last_with}
use Rattle.phone_values.specs.Ids.{name}
use Rattle.phone_records.specs.declared.loader.Metadata.{Metadata}
use Rattle.phone_territory.specs.Records.{code_of}
use Rattle.phone_keyed_parts.specs.Layouts.{Laid, no_layouts}
use Rattle.phone_keyed_parts.specs.Lines.{Line, no_keys}

-- its database and hint; all that was typed, and the keys in it; whether a character was typed that
-- is no key; how the keys are parted, whether a calling code is awaited, how the national digits
-- are laid out, and what is shown
pub record Field : Type 0 where
  pub database : List Metadata
  pub hint : Option Id
  pub text : List ℕ
  pub keys : List ℕ
  pub has_others : Bool
  pub line : Line
  pub awaits_code : Bool
  pub laid : Laid
  pub shown : List ℕ

-- the territory of the hint: the last record with its id
abbrev pub hinted : List Metadata → Option Id → Option Metadata
hinted db hint = option_and_then (λ id. last_with (name id) db) hint

-- the first territory of the calling code of the hint
abbrev pub home : List Metadata → Option Id → Option Metadata
home db hint = option_and_then (λ m. first_of (territories (code_of m) db)) (hinted db hint)

-- a field in which nothing is typed
abbrev pub empty : List Metadata → Option Id → Field
empty db hint = record {
  database = db;
  hint = hint;
  text = [];
  keys = [];
  has_others = false;
  line = no_keys (home db hint);
  awaits_code = false;
  laid = no_layouts;
  shown = [];
}

-- the key of a character: the digit of its value, in any script; before all else a plus sign is one
-- as well
abbrev pub key_of : List ℕ → ℕ → Option ℕ
key_of text c = if (length text == 0) && (c == 43) then Some 43 else value_of c
