-- Which numbers are found alone: the premises of the laws. Texts are lists of bytes.
use Rattle.std.specs.Prelude.{◌≡◌, ◌⊎◌, ◌||◌, ℕ, ◌≤◌, ◌+◌, Bool, true, false, List, [], ◌∷◌}
use Rattle.std.specs.Prelude.{IsUtf8, chars, length, reverse, None, Some}
use Rattle.std.specs.List.{list_any}
use Rattle.phone_chars.specs.Characters.{is_digit, is_plus}
use Rattle.phone_find.specs.Standing.{is_piece}
use Rattle.phone_find.specs.Rules.{followers, stamps}
use Rattle.phone_find.specs.Sets.{is_first, is_last}
use Rattle.phone_find.specs.Shapes.{has_date, is_bracketed}
use Rattle.phone_find.specs.Walks.{fits_some}
use Rattle.phone_values.specs.Numbers.{text_of}
use Rattle.phone_values.specs.declared.mode.Mode.TheVariants.{International}
use Rattle.phone_plans.specs.CodeLookUps.{is_prefix_free}
use Rattle.phone_print.specs.Texts.{laid_out}
use Rattle.phone_parts.specs.Texts.{ends}
use Rattle.phone_records.specs.declared.loader.Metadata.{Metadata}
use Rattle.phone_values.specs.declared.reading.Reading.{Reading}
use Rattle.phonenumber.specs.Plain.{IsAnnouncedSafely, IsLeftAlone, IsPlainInternational}
use Rattle.phone_find.specs.Founds.{most_bytes}
use Rattle.phone_find.specs.Leniencies.{suffices}
use Rattle.phone_values.specs.declared.rules.Rules.TheVariants.{Crate}
use Rattle.phone_find.specs.declared.leniency.Leniency.{Leniency}
use Rattle.phone_find.specs.declared.search.Found.{Found}

-- a number at the place of a piece that stands behind a text
abbrev pub placed : (before piece : List ℕ) → Reading → Found Reading
placed before piece n =
    record { start = length before; end = length before + length piece; number = n }

-- a piece begins at a plus sign, a digit or an opening bracket
abbrev pub is_opening : ℕ → Bool
is_opening c = is_plus c || is_first c

-- between two texts: no piece begins in the one before, and the one behind has neither a digit nor
-- a number sign
pub record IsAmong (before piece after : List ℕ) : Type 0 where
  pub before_utf8 : IsUtf8 before
  pub piece_utf8 : IsUtf8 piece
  pub after_utf8 : IsUtf8 after
  pub no_opening : list_any is_opening (chars before) ≡ false
  pub no_last : list_any is_last (chars after) ≡ false

-- a text is short enough, and may be a number by its characters, and by a space and the text that
-- follow it
pub record IsShaped (text after : List ℕ) : Type 0 where
  pub short : length text ≤ most_bytes
  pub piece : is_piece (chars text) (32 ∷ chars after) ≡ true

-- characters before others are taken for nothing else: their brackets stand as they may in a
-- number, no date stands in them, and they are no front of a longer number, a price, or a date with
-- its time
pub record IsNothingElse (text after : List ℕ) : Type 0 where
  pub bracketed : is_bracketed text ≡ true
  pub dateless : has_date text ≡ false
  pub unfollowed : fits_some followers (reverse text) after ≡ false
  pub unstamped : fits_some stamps (reverse text) after ≡ false

-- a number that suffices by the rules of the crate and is read back from its international text: it
-- is plain for that, stripping leaves its digits alone, its extension, if any, is announced safely,
-- its code has one to three digits, and no listed code begins another
pub record IsPlainEnough (db : List Metadata) (leniency : Leniency) (n : Reading) : Type 0 where
  pub plain : IsPlainInternational db n
  pub idle : IsLeftAlone db n.code.value (text_of n.national)
  pub announced : (n.extension ≡ None) ⊎ IsAnnouncedSafely plain.territory n
  pub some_code : 1 ≤ n.code.value
  pub few_digits : n.code.value ≤ 999
  pub prefix_free : is_prefix_free db ≡ true
  pub enough : suffices Crate db leniency n ≡ true

-- a laid-out number ends in a digit, and its extension, if any, isn't empty and is announced by
-- ` ext. `
pub record EndsInDigits (m : Metadata) (n : Reading) : Type 0 where
  pub laid : ends is_digit (chars (laid_out m International None n)) ≡ true
  pub extension : (n.extension ≡ None) ⊎
      ((m.preferred_extension_prefix ≡ None) × ¬ (n.extension ≡ Some []))
