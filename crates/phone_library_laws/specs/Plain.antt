-- Which numbers that are printed by some rules are read as the number: what the layout and the
-- extension must be.
use Rattle.std.specs.Prelude.{◌≡◌, ◌⊎◌, ℕ, ◌≤◌, false, length, chars, IsUtf8, List, ◌++◌}
use Rattle.std.specs.Prelude.{Option, None, Some}
use Rattle.phone_chars.specs.Characters.{is_separator}
use Rattle.phone_values.specs.Numbers.{IsHeld, text_of}
use Rattle.phone_values.specs.declared.mode.Mode.TheVariants.{International, National}
use Rattle.phone_values.specs.declared.mode.Mode.TheVariants.{Rfc3966}
use Rattle.phone_values.specs.declared.reading.Reading.{Reading}
use Rattle.phone_library.specs.LibraryCodes.{has_code}
use Rattle.phone_library.specs.Readings.{stripped}
use Rattle.phone_library_text.specs.Written.{most_characters}
use Rattle.phone_plans.specs.CodeLookUps.{first_of, territories}
use Rattle.phone_values.specs.declared.rules.Rules.{Rules}
use Rattle.phone_print.specs.Texts.{international_by, laid_out_by, national_by, rfc3966_by}
use Rattle.phone_records.specs.declared.loader.Metadata.{Metadata}
use Rattle.phone_read.specs.Dialling.{after_match, found_in}
use Rattle.phone_territory.specs.Records.{code_of}
use Rattle.phone_library_laws.specs.Announced.{IsAnnouncedIfAny, IsParameterIfAny, prefix_of}
use Rattle.phone_library_laws.specs.Layouts.{IsLaidOut, is_quiet}

-- the international text is laid out plainly: the code's first territory lays the digits out with
-- quiet punctuation, and the text isn't too long
pub record IsLaidInternational (rules : Rules) (db : List Metadata) (n : Reading) : Type 0 where
  pub territory : Metadata
  pub first : first_of (territories n.code.value db) ≡ Some territory
  pub utf8 : IsUtf8 (laid_out_by rules territory International None n)
  pub laid : IsLaidOut is_quiet (chars (laid_out_by rules territory International None n))
      (text_of n.national)
  pub few : length (chars (international_by rules territory None n)) ≤ most_characters

-- besides, the extension is announced so that it is read
pub record IsPlainInternational (rules : Rules) (db : List Metadata) (n : Reading) : Type 0 where
  pub layout : IsLaidInternational rules db n
  pub announced : IsAnnouncedIfAny (prefix_of layout.territory) n.extension

-- the text of RFC 3966 is laid out plainly: the code's first territory lays the digits out with
-- separators, which become hyphens, and the text isn't too long
pub record IsLaidRfc3966 (rules : Rules) (db : List Metadata) (n : Reading) : Type 0 where
  pub territory : Metadata
  pub first : first_of (territories n.code.value db) ≡ Some territory
  pub laid : IsLaidOut is_separator (chars (laid_out_by rules territory Rfc3966 None n))
      (text_of n.national)
  pub few : length (chars (rfc3966_by rules territory None n)) ≤ most_characters

-- besides, the extension has at most 20 digits
pub record IsPlainRfc3966 (rules : Rules) (db : List Metadata) (n : Reading) : Type 0 where
  pub layout : IsLaidRfc3966 rules db n
  pub parameter : IsParameterIfAny n.extension

-- two digits laid out, which are a number where they stand side by side at the end and no extension
-- follows
pub record IsPair (laid digits : List ℕ) (extension : Option (List ℕ)) : Type 0 where
  pub two : length digits ≡ 2
  pub before : List ℕ
  pub whole : laid ≡ before ++ digits
  pub no_extension : extension ≡ None

-- the national text is laid out plainly: the code's first territory lays the digits out with quiet
-- punctuation, perhaps with a national prefix, they are three at least or such a pair, the
-- extension is announced so that it is read, and the text isn't too long
pub record IsLaidNational (rules : Rules) (db : List Metadata) (n : Reading) : Type 0 where
  pub territory : Metadata
  pub first : first_of (territories n.code.value db) ≡ Some territory
  pub utf8 : IsUtf8 (laid_out_by rules territory National None n)
  pub digits : List ℕ
  pub laid : IsLaidOut is_quiet (chars (laid_out_by rules territory National None n)) digits
  pub enough : (3 ≤ length digits) ⊎
      IsPair (chars (laid_out_by rules territory National None n)) digits n.extension
  pub announced : IsAnnouncedIfAny (prefix_of territory) n.extension
  pub few : length (chars (national_by rules territory None n)) ≤ most_characters

-- digits that are dialled inside a territory are the national number: no international prefix and
-- no calling code stands before them, and the territory strips nothing off them but what isn't the
-- number's
pub record IsDialledInside (m : Metadata) (n : Reading) (digits : List ℕ) : Type 0 where
  pub code : code_of m ≡ n.code.value
  pub no_prefix : after_match digits (found_in m.international_prefix digits) ≡ None
  pub no_code : has_code m digits ≡ false
  pub left : (stripped (Some m) digits).national ≡ text_of n.national
  pub held : IsHeld n.national
  pub long_enough : 2 ≤ length (text_of n.national)
  pub short_enough : length (text_of n.national) ≤ 17

-- the national text is laid out plainly, and its digits are dialled inside a territory
pub record IsPlainNational (rules : Rules) (db : List Metadata) (inside : Metadata)
    (n : Reading) : Type 0 where
  pub layout : IsLaidNational rules db n
  pub dialled : IsDialledInside inside n layout.digits
