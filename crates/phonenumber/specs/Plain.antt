-- Which printed numbers are read back: the premises.
use Rattle.std.specs.Prelude.{◌≡◌, ◌⊎◌, ℕ, ◌<◌, ◌≤◌, not, Bool, true, false, List, [], ◌∷◌}
use Rattle.std.specs.Prelude.{filter, length, chars, IsUtf8, Option, None, Some}
use Rattle.std.specs.List.{list_all, list_any}
use Rattle.std.specs.Option.{option_map_or}
use Rattle.phone_chars.specs.Characters.{is_digit, is_one_of, is_punctuation, is_separator}
use Rattle.phone_values.specs.Numbers.{text_of}
use Rattle.phone_values.specs.declared.mode.Mode.TheVariants.{International}
use Rattle.phone_plans.specs.CodeLookUps.{first_of, territories}
use Rattle.phone_territory.specs.Prefixes.{is_benign_prefix}
use Rattle.phone_parts.specs.Announcements.{IsAnnouncement}
use Rattle.phone_parts.specs.Texts.{ends}
use Rattle.phone_records.specs.declared.loader.Metadata.{Metadata}
use Rattle.phone_read.specs.Readings.{without_zeros}
use Rattle.phone_read.specs.Regions.{home}
use Rattle.phone_read.specs.Strips.{strip}
use Rattle.phone_values.specs.declared.reading.Reading.{Reading}
use Rattle.phone_print.specs.Texts.{laid_out}

-- the code is listed, with m as its first territory, the value is not 0, and the national text has
-- `least` to 17 digits
pub record IsPlain (db : List Metadata) (n : Reading) (least : ℕ) (m : Metadata) : Type 0 where
  pub listed : first_of (territories n.code.value db) ≡ Some m
  pub not_zero : 0 < n.national.value
  pub long_enough : least ≤ length (text_of n.national)
  pub short_enough : length (text_of n.national) ≤ 17

-- the extension is absent, or ASCII digits alone, possibly none
abbrev pub has_digits : Option (List ℕ) → Bool
has_digits e = option_map_or (list_all is_digit) e true

-- a number is plain for the E.164 text: two digits at least
abbrev pub IsPlainE164 : List Metadata → Reading → Type 0
IsPlainE164 db n = (m : Metadata) × IsPlain db n 2 m

-- for the text of RFC 3966: three digits at least, an extension of digits if any, and the laid-out
-- text is the digits and separators
pub record IsPlainRfc3966 (db : List Metadata) (n : Reading) : Type 0 where
  pub territory : Metadata
  pub plain : IsPlain db n 3 territory
  pub extension : has_digits n.extension ≡ true
  pub only_parted : filter (λ c. not (is_separator c))
      (chars (laid_out territory International None n)) ≡ text_of n.national

-- for the international text: at most seven digits of extension, and the laid-out text is the
-- digits and punctuation that announces no extension
pub record IsPlainInternational (db : List Metadata) (n : Reading) : Type 0 where
  pub territory : Metadata
  pub plain : IsPlain db n 2 territory
  pub extension : has_digits n.extension ≡ true
  pub few_digits : option_map_or length n.extension 0 ≤ 7
  pub only_parted : filter (λ c. not (is_punctuation c))
      (chars (laid_out territory International None n)) ≡ text_of n.national
  pub no_indicator : list_any (is_one_of (120 ∷ 126 ∷ 0xFF5E ∷ []))
      (chars (laid_out territory International None n)) ≡ false

-- an extension is announced safely: the territory has no preferred extension prefix, so that
-- ` ext. ` is printed, or a benign one, and the laid-out text ends in an ASCII digit
abbrev pub IsAnnouncedSafely : Metadata → Reading → Type 0
IsAnnouncedSafely m n =
    (m.preferred_extension_prefix ≡ None)
    ⊎ ((is_benign_prefix m.preferred_extension_prefix ≡ true)
    × (ends is_digit (chars (laid_out m International None n)) ≡ true))

-- the territory's preferred extension prefix announces by a word, and the laid-out text ends in an
-- ASCII digit
pub record IsAnnouncedByWord (m : Metadata) (n : Reading) : Type 0 where
  pub prefix : List ℕ
  pub preferred : m.preferred_extension_prefix ≡ Some prefix
  pub utf8 : IsUtf8 prefix
  pub by_word : IsAnnouncement (chars prefix)
  pub after_digit : ends is_digit (chars (laid_out m International None n)) ≡ true

-- stripping leaves the digits alone: they, without their leading zeros, have no home, or its rules
-- leave them as they are
abbrev pub IsLeftAlone : List Metadata → ℕ → List ℕ → Type 0
IsLeftAlone db code digits = (home db code (without_zeros digits) ≡ None) ⊎
    ((m : Metadata) × (home db code (without_zeros digits) ≡ Some m) ×
    ((strip m digits).national ≡ digits))
