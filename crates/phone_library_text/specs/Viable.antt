-- Which texts may be a number at all, and the number and the extension of such a text: as
-- libphonenumber has it.
use Rattle.std.specs.Prelude.{◌≡◌, ◌⊎◌, ℕ, ◌<◌, ◌≤◌, true, List, ◌++◌, length, take}
use Rattle.std.specs.Prelude.{slice_index, count_by, Option, None, Some}
use Rattle.std.specs.List.{list_all}
use Rattle.phone_chars.specs.Characters.{is_nd, is_plus}
use Rattle.phone_library_text.specs.Extensions.{HasLongestExtension, HasNoExtension, IsExtension}
use Rattle.phone_library_text.specs.Letters.{is_allowed, is_early}

-- exactly two digits
pub record IsTwoDigits (t : List ℕ) : Type 0 where
  pub two : length t ≡ 2
  pub digits : list_all is_nd t ≡ true

-- plus signs, or none, and after them at least three digits among allowed characters, with no
-- letter but `x` before the third digit
pub record IsSignedDigits (t : List ℕ) : Type 0 where
  pub plus_signs : List ℕ
  pub body : List ℕ
  pub whole : t ≡ plus_signs ++ body
  pub only_plus_signs : list_all is_plus plus_signs ≡ true
  pub only_allowed : list_all is_allowed body ≡ true
  pub three_digits : 3 ≤ count_by is_nd body
  pub no_early_letter : (k : ℕ) → k < length body → count_by is_nd (take k body) < 3 →
      is_early (slice_index body k) ≡ true

-- signed digits, and then an extension
pub record IsExtended (t : List ℕ) : Type 0 where
  pub number : List ℕ
  pub extension : List ℕ
  pub digits : List ℕ
  pub whole : t ≡ number ++ extension
  pub is_number : IsSignedDigits number
  pub is_extension : IsExtension extension digits

-- a viable text: two digits alone, or signed digits, perhaps with an extension
abbrev pub IsViable : List ℕ → Type 0
IsViable t = IsTwoDigits t ⊎ (IsSignedDigits t ⊎ IsExtended t)

-- a viable text is parted before its longest end that is an extension, where what stands before it
-- is viable itself; else it has no extension
pub data HasNumber (t : List ℕ) : List ℕ → Option (List ℕ) → Type 0 where
  extended : (n d : List ℕ) → HasLongestExtension t n d → IsViable n → HasNumber t n (Some d)
  not_viable : (n d : List ℕ) → HasLongestExtension t n d → ¬ (IsViable n) → HasNumber t t None
  plain : HasNoExtension t → HasNumber t t None
