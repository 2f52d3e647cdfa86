-- What the characters of a text stand for as it is dialled: as libphonenumber has it.
use Rattle.std.specs.Prelude.{◌≡◌, ℕ, ◌≤◌, ◌||◌, Bool, List, [], ◌∷◌, map, filter, count_by}
use Rattle.std.specs.Prelude.{Option, None, unwrap_or}
use Rattle.std.specs.List.{filter_map}
use Rattle.phone_chars.specs.Characters.{is_alpha, is_digit, is_one_of}
use Rattle.phone_library_text.specs.Letters.{key_of, value_of}
use Rattle.phone_library_text.specs.Viable.{HasNumber, IsViable}

-- three letters of ASCII at least stand in a text, not counted those of its extension
pub record HasLetteredFront (t : List ℕ) : Type 0 where
  pub front : List ℕ
  pub extension : Option (List ℕ)
  pub number : HasNumber t front extension
  pub letters : 3 ≤ count_by is_alpha front

-- a number that is written with letters: a viable text with so many
abbrev pub HasLetters : List ℕ → Type 0
HasLetters t = IsViable t × HasLetteredFront t

-- a character as it is dialled: a letter becomes the digit of its key, all else stays
abbrev pub as_key : ℕ → ℕ
as_key c = unwrap_or (key_of c) c

-- a text with its letters turned to digits
abbrev pub with_keys : List ℕ → List ℕ
with_keys t = map as_key t

-- the values of a text's digits of any script
abbrev pub digits_only : List ℕ → List ℕ
digits_only t = filter_map value_of t

-- what a telephone can dial: digits, plus sign, star, number sign
abbrev pub is_diallable : ℕ → Bool
is_diallable c = is_digit c || is_one_of (43 ∷ 42 ∷ 35 ∷ []) c

-- what of a text a telephone can dial
abbrev pub diallable_only : List ℕ → List ℕ
diallable_only t = filter is_diallable t
