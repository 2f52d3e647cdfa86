-- How a number that was read is printed in the way in which it was written: after
-- `formatInOriginalFormat` of libphonenumber.
use Rattle.std.specs.Prelude.{◌≡◌, ℕ, ◌==◌, not, Bool, true, false, if◌then◌else◌}
use Rattle.std.specs.Prelude.{List, [], ◌∷◌, ◌++◌, chars, codes, unwrap_or}
use Rattle.std.specs.Prelude.{Option, None, Some, Result, Ok, Err}
use Rattle.std.specs.List.{list_any}
use Rattle.std.specs.Option.{option_and_then, option_map_or}
use Rattle.std.specs.Str.{bytes_eq}
use Rattle.phone_chars.specs.Characters.{is_nd}
use Rattle.phone_chars.specs.Cuts.{front}
use Rattle.phone_values.specs.Ids.{id_of}
use Rattle.phone_values.specs.Numbers.{text_of}
use Rattle.phone_values.specs.declared.country.Id.{Id}
use Rattle.phone_values.specs.declared.country.Source.{Source}
use Rattle.phone_values.specs.declared.country.Source.TheVariants.{Default, Idd, Number, Plus}
use Rattle.phone_values.specs.declared.error.ParseError.{ParseError}
use Rattle.phone_values.specs.declared.mode.Mode.TheVariants.{International, National}
use Rattle.phone_values.specs.declared.reading.Reading.{Reading}
use Rattle.phone_values.specs.declared.rules.Rules.TheVariants.{Library}
use Rattle.phone_library.specs.Facts.{is_valid_number}
use Rattle.phone_library.specs.Readings.{ReadsByLibrary}
use Rattle.phone_pattern.specs.Rules.{ruled_template}
use Rattle.phone_plans.specs.CodeLookUps.{first_of, territories}
use Rattle.phone_print.specs.Layouts.{layout_by}
use Rattle.phone_print.specs.Texts.{extension_part}
use Rattle.phone_records.specs.declared.loader.Format.{Format}
use Rattle.phone_records.specs.declared.loader.Metadata.{Metadata}
use Rattle.phone_territory.specs.Layouts.{laid_by, layout_template}
use Rattle.phone_questions.specs.Letters.{diallable_only, digits_only}
use Rattle.phone_questions.specs.Matches.{extension_told}
use Rattle.phone_questions.specs.Regions.{national_prefix_digits}
use Rattle.phone_dialling.specs.Abroad.{dialled_text, if_some}
use Rattle.phone_dialling.specs.Texts.{signless, text_in}

-- a territory's layout of national digits
abbrev pub layout_in : Metadata → List ℕ → Option Format
layout_in m digits = layout_by Library m National None digits

-- a character that names no group of a template
abbrev pub is_no_group : ℕ → Bool
is_no_group c = not (c == 36)

-- a template has a digit before its first group
abbrev pub has_digit_before : List ℕ → Bool
has_digit_before template = list_any is_nd (front is_no_group (chars template))

-- a layout's rule writes digits before the first group, the territory's national prefix perhaps
abbrev pub writes_digits : Metadata → Format → Bool
writes_digits m f = option_map_or
    (λ rule. has_digit_before
    (ruled_template (codes "$1") rule (unwrap_or m.national_prefix []) []))
    f.national_prefix_formatting_rule false

-- the region of a territory
abbrev pub region_of : Metadata → Option Id
region_of m = option_and_then id_of m.id

-- the national prefix of a territory's region
abbrev pub own_prefix : List Metadata → Metadata → Option (List ℕ)
own_prefix db m = option_and_then if_some
    (option_and_then (national_prefix_digits db) (region_of m))

-- the national prefix that a layout writes
abbrev pub written_prefix : List Metadata → Metadata → Format → Option (List ℕ)
written_prefix db m f = if writes_digits m f then own_prefix db m else None

-- what is read is a valid number
abbrev pub is_valid_read : List Metadata → Result Reading ParseError → Bool
is_valid_read db (Ok n) = is_valid_number db n
is_valid_read db (Err e) = false

-- digits are a valid number of a region behind a prefix
pub data IsBehind (db : List Metadata) (hint : Option Id) (prefix digits : List ℕ) : Bool →
    Type 0 where
  other : ((rest : List ℕ) → ¬ (digits ≡ prefix ++ rest)) → IsBehind db hint prefix digits false
  read : (rest : List ℕ) (r : Result Reading ParseError) → digits ≡ prefix ++ rest →
      ReadsByLibrary db hint (chars rest) r → IsBehind db hint prefix digits (is_valid_read db r)

-- the digits of a text
abbrev pub digits_of : List ℕ → List ℕ
digits_of raw = digits_only (chars raw)

-- a number whose code came from the hint alone is written without its national prefix: its layout
-- writes one, and the text has none before a valid number
pub data LeavesPrefix (db : List Metadata) (m : Metadata) (f : Format) (raw : List ℕ) : Bool →
    Type 0 where
  none : written_prefix db m f ≡ None → LeavesPrefix db m f raw false
  asked : (prefix : List ℕ) (b : Bool) → written_prefix db m f ≡ Some prefix →
      IsBehind db (region_of m) prefix (digits_of raw) b → LeavesPrefix db m f raw (not b)

-- a number laid out without its national prefix, and its extension
abbrev pub bare_text : Metadata → Format → Reading → List ℕ
bare_text m f n = laid_by f (layout_template f) (text_of n.national) ++
    extension_part m (extension_told n.extension)

-- the national text, perhaps without the prefix
abbrev pub hinted_text : List Metadata → Metadata → Format → List ℕ → Reading → Bool → List ℕ
hinted_text db m f raw n leaves = if leaves then bare_text m f n
    else text_in db National (Some raw) n

-- the text of a number by what told its code: a plus sign, an international prefix, digits alone,
-- or the hint
pub data IsToldText (db : List Metadata) (from : Option Id) (raw : List ℕ) (n : Reading)
    (m : Metadata) (f : Format) : Source → List ℕ → Type 0 where
  plus : IsToldText db from raw n m f Plus (text_in db International (Some raw) n)
  idd : IsToldText db from raw n m f Idd (dialled_text db from (Some raw) n)
  number : IsToldText db from raw n m f Number (signless (text_in db International (Some raw) n))
  hint : (leaves : Bool) → LeavesPrefix db m f raw leaves →
      IsToldText db from raw n m f Default (hinted_text db m f raw n leaves)

-- the characters of a text that a telephone can dial
abbrev pub dialled_of : List ℕ → List ℕ
dialled_of t = diallable_only (chars t)

-- a text, unless what is dialled of it isn't what was dialled of the text that was read: then that
abbrev pub unless_changed : List ℕ → List ℕ → List ℕ
unless_changed raw t = if bytes_eq (dialled_of t) (dialled_of raw) then t else raw

-- a number that was read from a text, as that was written: as it stands where the number has no
-- layout; without such a text the national text
pub data IsOriginal (db : List Metadata) (from : Option Id) (n : Reading) :
    Option (List ℕ) → List ℕ → Type 0 where
  unread : IsOriginal db from n None (text_in db National None n)
  unlisted : (raw : List ℕ) → first_of (territories n.code.value db) ≡ None →
      IsOriginal db from n (Some raw) raw
  unlaid : (raw : List ℕ) (m : Metadata) → first_of (territories n.code.value db) ≡ Some m →
      layout_in m (text_of n.national) ≡ None → IsOriginal db from n (Some raw) raw
  laid : (raw t : List ℕ) (m : Metadata) (f : Format) →
      first_of (territories n.code.value db) ≡ Some m →
      layout_in m (text_of n.national) ≡ Some f →
      IsToldText db from raw n m f n.code.source t →
      IsOriginal db from n (Some raw) (unless_changed raw t)
