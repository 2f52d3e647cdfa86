-- The extension at the end of a text: as libphonenumber has it.
use Rattle.std.specs.Prelude.{◌≡◌, ℕ, ◌≤◌, ◌<◌, ◌==◌, not, true, List, ◌++◌, length, drop}
use Rattle.std.specs.List.{list_all}
use Rattle.phone_chars.specs.Characters.{is_nd}
use Rattle.phone_parts.specs.Suffixes.{IsOptional, is_sign}
use Rattle.phone_library_text.specs.Announcements.{Announces}

-- w is an announcement, digits d of any script, perhaps a number sign
pub record IsExtension (w d : List ℕ) : Type 0 where
  pub announcement : List ℕ
  pub sign : List ℕ
  pub whole : w ≡ announcement ++ (d ++ sign)
  pub announced : Announces announcement (length d) (not (length sign == 0))
  pub digits : list_all is_nd d ≡ true
  pub some_digits : 1 ≤ length d
  pub signs : IsOptional is_sign sign

-- no end of the text is an extension
abbrev pub HasNoExtension : List ℕ → Type 0
HasNoExtension t = (k : ℕ) (d : List ℕ) → ¬ (IsExtension (drop k t) d)

-- the text is `before` and its longest end that is an extension, with digits d
pub record HasLongestExtension (t before d : List ℕ) : Type 0 where
  pub extension : List ℕ
  pub whole : t ≡ before ++ extension
  pub is_extension : IsExtension extension d
  pub longest : (k : ℕ) (e : List ℕ) → k < length before → ¬ (IsExtension (drop k t) e)
