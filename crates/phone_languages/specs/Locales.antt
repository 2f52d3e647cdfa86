-- Locales, and which files of a language they ask for: as libphonenumber chooses them.
use Rattle.std.specs.Prelude.{◌≡◌, ◌≢◌, ◌<◌, ◌==◌, ◌&&◌, ◌||◌, ℕ, nat_eq, Bool}
use Rattle.std.specs.Prelude.{if◌then◌else◌, List, [], ◌∷◌, length, map, take, codes, chars}
use Rattle.std.specs.Prelude.{encode_utf8_all, slice_index}
use Rattle.std.specs.Char.{to_ascii_lowercase}
use Rattle.std.specs.List.{before_first, ends_with}
use Rattle.std.specs.Str.{bytes_eq}

-- a character as it stands in a locale: in small letters, a hyphen for an underscore
abbrev pub normal : ℕ → ℕ
normal c = if c == 95 then 45 else to_ascii_lowercase c

-- a locale's text in small letters, with hyphens between its parts
abbrev pub normalized : List ℕ → List ℕ
normalized text = encode_utf8_all (map normal (chars text))

-- its language: the first of its parts
abbrev pub language : List ℕ → List ℕ
language locale = before_first (λ c. c == 45) locale

-- the last of several parts is a region that writes Chinese in the traditional script: Taiwan, Hong
-- Kong, Macau
abbrev pub has_traditional_region : List ℕ → Bool
has_traditional_region locale = ends_with nat_eq locale (codes "-tw") ||
    ends_with nat_eq locale (codes "-hk") || ends_with nat_eq locale (codes "-mo")

-- Chinese of such a region; a script in the locale isn't heeded
abbrev pub is_traditional : List ℕ → Bool
is_traditional locale = bytes_eq (language locale) (codes "zh") && has_traditional_region locale

-- the file of the texts by prefixes: that of the language, and one of its own for such Chinese
abbrev pub text_file : List ℕ → List ℕ
text_file locale = if is_traditional locale then codes "zh_Hant" else language locale

-- languages that stand alone, with no English behind them: Chinese, Japanese, Korean
abbrev pub is_alone : List ℕ → Bool
is_alone locale = bytes_eq (language locale) (codes "zh") ||
    bytes_eq (language locale) (codes "ja") || bytes_eq (language locale) (codes "ko")

-- no byte of a text is this one
abbrev pub Lacks : ℕ → List ℕ → Type 0
Lacks c text = (i : ℕ) → i < length text → slice_index text i ≢ c

-- the last hyphen of a text stands at this place
pub record IsLastHyphen (text : List ℕ) (at : ℕ) : Type 0 where
  pub inside : at < length text
  pub hyphen : slice_index text at ≡ 45
  pub last : (i : ℕ) → at < i → i < length text → slice_index text i ≢ 45

-- the files that may have the names of regions, in the order in which they are asked: that of the
-- locale, of it without its last part, and so on
pub data AreNameFiles : List ℕ → List (List ℕ) → Type 0 where
  one : (locale : List ℕ) → Lacks 45 locale → AreNameFiles locale (locale ∷ [])
  more : (locale : List ℕ) (at : ℕ) (files : List (List ℕ)) → IsLastHyphen locale at →
      AreNameFiles (take at locale) files → AreNameFiles locale (locale ∷ files)
