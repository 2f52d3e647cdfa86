-- Characters, where letters of either case count as one, and the digits of a text: as
-- libphonenumber has them.
use Rattle.std.specs.Prelude.{ℕ, ◌+◌, ◌-◌, ◌==◌, ◌||◌, nat_le, Bool, if◌then◌else◌, List, [], ◌∷◌}
use Rattle.std.specs.Prelude.{map, count_by, Option, Some, option_map}
use Rattle.std.specs.List.{find, filter_map}
use Rattle.std.specs.Str.{bytes_eq}
use Rattle.phone_chars.specs.Characters.{is_alpha, is_in_run, is_nd, is_one_of, is_separator}
use Rattle.phone_chars.specs.Characters.{is_star, keypad}
use Rattle.ucd_case.specs.CaseFolding.{simple_fold}

-- a letter's folding; the dotted capital i and the dotless small one fold to i
abbrev pub folded : ℕ → ℕ
folded c = if is_one_of (0x130 ∷ 0x131 ∷ []) c then 105 else simple_fold c

-- two texts are alike where their characters have the same foldings, one for one
abbrev pub is_alike : List ℕ → List ℕ → Bool
is_alike a b = bytes_eq (map folded a) (map folded b)

-- letters: those of ASCII, and the four characters that fold to one
abbrev pub is_latin : ℕ → Bool
is_latin c = is_alpha c || is_one_of (0x130 ∷ 0x131 ∷ 0x17F ∷ 0x212A ∷ []) c

-- separators, `x` of either case, stars, and digits of any script may stand anywhere in a number
abbrev pub is_early : ℕ → Bool
is_early c = is_separator c || (c == 88) || is_star c || is_nd c

-- what may stand after a number's third digit: all that may stand anywhere, and letters
abbrev pub is_allowed : ℕ → Bool
is_allowed c = is_early c || is_latin c

-- the zeros of the digits of each script but ASCII's, whose other nine follow their zero
abbrev pub script_zeros : List ℕ
script_zeros =
    0x660 ∷ 0x6F0 ∷ 0x7C0 ∷ 0x966 ∷ 0x9E6 ∷ 0xA66 ∷ 0xAE6 ∷ 0xB66 ∷ 0xBE6 ∷ 0xC66 ∷ 0xCE6 ∷ 0xD66 ∷
    0xDE6 ∷ 0xE50 ∷ 0xED0 ∷ 0xF20 ∷ 0x1040 ∷ 0x1090 ∷ 0x17E0 ∷ 0x1810 ∷ 0x1946 ∷ 0x19D0 ∷ 0x1A80 ∷
    0x1A90 ∷ 0x1B50 ∷ 0x1BB0 ∷ 0x1C40 ∷ 0x1C50 ∷ 0xA620 ∷ 0xA8D0 ∷ 0xA900 ∷ 0xA9D0 ∷ 0xA9F0 ∷
    0xAA50 ∷ 0xABF0 ∷ 0xFF10 ∷ 0x104A0 ∷ 0x10D30 ∷ 0x10D40 ∷ 0x11066 ∷ 0x110F0 ∷ 0x11136 ∷ 0x111D0 ∷
    0x112F0 ∷ 0x11450 ∷ 0x114D0 ∷ 0x11650 ∷ 0x116C0 ∷ 0x116D0 ∷ 0x116DA ∷ 0x11730 ∷ 0x118E0 ∷
    0x11950 ∷ 0x11BF0 ∷ 0x11C50 ∷ 0x11D50 ∷ 0x11DA0 ∷ 0x11DE0 ∷ 0x11F50 ∷ 0x16130 ∷ 0x16A60 ∷
    0x16AC0 ∷ 0x16B50 ∷ 0x16D70 ∷ 0x1CCF0 ∷ 0x1D7CE ∷ 0x1D7D8 ∷ 0x1D7E2 ∷ 0x1D7EC ∷ 0x1D7F6 ∷
    0x1E140 ∷ 0x1E2F0 ∷ 0x1E4F0 ∷ 0x1E5F1 ∷ 0x1E950 ∷ 0x1FBF0 ∷ []

-- the zeros of the digits of all scripts
abbrev pub zeros : List ℕ
zeros = 0x30 ∷ script_zeros

-- the ASCII digit of the value of a digit of any script
abbrev pub value_of : ℕ → Option ℕ
value_of c = option_map (λ zero. 48 + (c - zero)) (find (λ zero. is_in_run zero c) zeros)

-- the key that a character is dialled on, by its upper case: the dotless i has that of `I`, the
-- long s that of `S`
abbrev pub key_of : ℕ → Option ℕ
key_of c = if c == 0x131 then Some 52 else if c == 0x17F then Some 55 else keypad c

-- a text of letters to be dialled on a keypad: at least three letters of ASCII stand in it
abbrev pub is_lettered : List ℕ → Bool
is_lettered t = nat_le 3 (count_by is_alpha t)

-- the digits of a text: the keys of its ASCII digits and letters where it is lettered, else the
-- values of its digits of any script; nothing else counts
abbrev pub digits_in : List ℕ → List ℕ
digits_in t = filter_map (if is_lettered t then key_of else value_of) t
