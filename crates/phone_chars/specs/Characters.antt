-- Classes of characters, as sets, and the digit that a character stands for: after the original's
-- `consts` and `parser/helper`, and Unicode's categories.
use Rattle.std.specs.Prelude.{ℕ, ◌+◌, ◌-◌, ◌==◌, ◌||◌, ◌&&◌, nat_le, nat_lt, Bool, if◌then◌else◌}
use Rattle.std.specs.Prelude.{List, [], ◌∷◌, codes, Option, Some, option_map}
use Rattle.std.specs.Char.{is_ascii_digit, is_ascii_alphabetic}
use Rattle.std.specs.List.{list_any, find}
use Rattle.std.specs.Option.{option_or}
use Rattle.ucd_case.specs.CaseFolding.{simple_fold}
use Rattle.ucd_category.specs.GeneralCategory.{general_category, general_category_eq}
use Rattle.ucd_category.specs.GeneralCategoryGroup.{in_group}
use Rattle.ucd_category.specs.declared.GeneralCategory.TheVariants.{DecimalNumber}
use Rattle.ucd_category.specs.declared.GeneralCategoryGroup.TheVariants.{Letter, Number}

-- c is one of the characters
abbrev pub is_one_of : List ℕ → ℕ → Bool
is_one_of members c = list_any (λ m. m == c) members

-- digits: `0` to `9`
abbrev pub is_digit : ℕ → Bool
is_digit c = is_ascii_digit c

-- letters: `a` to `z` and `A` to `Z`
abbrev pub is_alpha : ℕ → Bool
is_alpha c = is_ascii_alphabetic c

-- plus signs: `+` and the fullwidth plus sign
abbrev pub is_plus : ℕ → Bool
is_plus c = is_one_of (43 ∷ 0xFF0B ∷ []) c

-- the star of a keypad
abbrev pub is_star : ℕ → Bool
is_star c = c == 42

-- what may stand between the digits of a number: dashes, `x`, spaces, brackets, dots, slashes,
-- tildes
abbrev pub punctuation : List ℕ
punctuation =
    0x2D ∷ 0x78 ∷ 0x2010 ∷ 0x2011 ∷ 0x2012 ∷ 0x2013 ∷ 0x2014 ∷ 0x2015 ∷ 0x2212 ∷ 0x30FC ∷ 0xFF0D ∷
    0xFF0F ∷
    0x20 ∷ 0xA0 ∷ 0xAD ∷ 0x200B ∷ 0x2060 ∷ 0x3000 ∷ 0x28 ∷ 0x29 ∷ 0xFF08 ∷ 0xFF09 ∷ 0xFF3B ∷
    0xFF3D ∷
    0x2E ∷ 0x5B ∷ 0x5D ∷ 0x2F ∷ 0x7E ∷ 0x2053 ∷ 0x223C ∷ 0xFF5E ∷ []

-- a character is punctuation where it is one of these
abbrev pub is_punctuation : ℕ → Bool
is_punctuation c = is_one_of punctuation c

-- separators: the punctuation, and the fullwidth full stop
abbrev pub is_separator : ℕ → Bool
is_separator c = is_punctuation c || (c == 0xFF0E)

-- a decimal digit of any script: category Nd
abbrev pub is_nd : ℕ → Bool
is_nd c = general_category_eq (general_category c) DecimalNumber

-- a number of any script: category N
abbrev pub is_number : ℕ → Bool
is_number c = in_group Number (general_category c)

-- a letter of any script: category L
abbrev pub is_letter : ℕ → Bool
is_letter c = in_group Letter (general_category c)

-- both characters have one simple folding
abbrev pub same_fold : ℕ → ℕ → Bool
same_fold a b = simple_fold a == simple_fold b

-- the zeros of fifteen runs of digits beside ASCII's; each run is the ten characters from its zero
-- on
abbrev pub script_zeros : List ℕ
script_zeros =
    0x660 ∷ 0x6F0 ∷ 0x7C0 ∷ 0x966 ∷ 0x9E6 ∷ 0xA66 ∷ 0xAE6 ∷ 0xB66 ∷ 0xBE6 ∷ 0xC66 ∷ 0xCE6 ∷ 0xD66 ∷
    0xE50 ∷ 0xED0 ∷ 0xFF10 ∷ []

-- c is one of the ten characters from `first` on
abbrev pub is_in_run : ℕ → ℕ → Bool
is_in_run first c = nat_le first c && nat_lt c (first + 10)

-- the ASCII digit that c stands for: itself, or that of its place in its run
abbrev pub as_dec_digit : ℕ → Option ℕ
as_dec_digit c =
    if is_digit c then Some c else option_map (λ first. 48 + (c - first))
    (find (λ first. is_in_run first c) script_zeros)

-- the letters on the keys of a telephone, from key 2 on
abbrev pub key_letters : List (ℕ × List ℕ)
key_letters =
    (50, codes "ABCabc") ∷ (51, codes "DEFdef") ∷ (52, codes "GHIghi") ∷ (53, codes "JKLjkl") ∷
    (54, codes "MNOmno") ∷ (55, codes "PQRSpqrs") ∷ (56, codes "TUVtuv") ∷ (57, codes "WXYZwxyz") ∷
    []

-- the key that c is dialled on: a digit its own, a letter the one that has it
abbrev pub keypad : ℕ → Option ℕ
keypad c = if is_digit c then Some c else option_map (λ (k : ℕ × List ℕ). k.0)
    (find (λ (k : ℕ × List ℕ). is_one_of k.1 c) key_letters)

-- the digit of a character: as a digit of some script, else on the keypad
abbrev pub digit_of : ℕ → Option ℕ
digit_of c = option_or (as_dec_digit c) (keypad c)
