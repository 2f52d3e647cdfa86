-- Which texts may be a number at all: after the original's `parser/valid`. Texts are lists of
-- characters.
use Rattle.std.specs.Prelude.{◌≡◌, ℕ, ◌<◌, ◌≤◌, ◌||◌, ◌⊎◌, Bool, true, List, ◌++◌, length, take}
use Rattle.std.specs.Prelude.{slice_index, count_by}
use Rattle.std.specs.List.{list_all}
use Rattle.phone_chars.specs.Characters.{is_digit, is_alpha, is_plus, is_star, is_punctuation}

-- punctuation, stars and digits may stand anywhere
abbrev pub is_early : ℕ → Bool
is_early c = is_punctuation c || is_star c || is_digit c

-- letters may stand too; those that are no punctuation only after the third digit
abbrev pub is_allowed : ℕ → Bool
is_allowed c = is_early c || is_alpha c

-- exactly two digits
pub record IsTwoDigits (t : List ℕ) : Type 0 where
  pub two : length t ≡ 2
  pub digits : list_all is_digit t ≡ true

-- plus signs, or none, and after them at least three digits among allowed characters, with no
-- letter but the small `x` before the third digit
pub record IsSignedDigits (t : List ℕ) : Type 0 where
  pub signs : List ℕ
  pub body : List ℕ
  pub whole : t ≡ signs ++ body
  pub only_signs : list_all is_plus signs ≡ true
  pub only_allowed : list_all is_allowed body ≡ true
  pub three_digits : 3 ≤ count_by is_digit body
  pub no_early_letter : (k : ℕ) → k < length body → count_by is_digit (take k body) < 3 →
      is_early (slice_index body k) ≡ true

-- a viable text
abbrev pub IsViable : List ℕ → Type 0
IsViable t = IsTwoDigits t ⊎ IsSignedDigits t
