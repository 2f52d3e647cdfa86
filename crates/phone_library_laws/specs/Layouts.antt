-- What a printed number may be laid out with, so that it is read again.
use Rattle.std.specs.Prelude.{◌≡◌, ℕ, ◌||◌, ◌&&◌, not, Bool, true, List, [], ◌∷◌, filter}
use Rattle.std.specs.List.{list_all}
use Rattle.phone_chars.specs.Characters.{is_digit, is_one_of, is_punctuation}
use Rattle.phone_parts.specs.Texts.{ends}

-- punctuation that may announce an extension: `x` and the tildes
abbrev pub announcing : List ℕ
announcing = 120 ∷ 126 ∷ 0xFF5E ∷ []

-- other punctuation
abbrev pub is_quiet : ℕ → Bool
is_quiet c = is_punctuation c && not (is_one_of announcing c)

-- digits, and what may stand between them; the last character is a digit
pub record IsLaidOut (between : ℕ → Bool) (text digits : List ℕ) : Type 0 where
  pub only : list_all (λ c. is_digit c || between c) text ≡ true
  pub same : filter is_digit text ≡ digits
  pub last : ends is_digit text ≡ true
