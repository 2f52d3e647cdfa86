-- What is kept of a text in which a number was written with letters: as libphonenumber keeps it.
use Rattle.std.specs.Prelude.{ℕ, ◌==◌, nat_eq, nat_lt, Bool, if◌then◌else◌, List, [], ◌∷◌, chars}
use Rattle.std.specs.Prelude.{encode_utf8_all, length, take, Option, None, Some, unwrap_or}
use Rattle.std.specs.Char.{to_ascii_uppercase}
use Rattle.std.specs.List.{filter_map, starts_with}
use Rattle.std.specs.Option.{option_and_then, option_or}
use Rattle.phone_chars.specs.Characters.{is_alpha, is_digit, is_one_of}

-- a letter's capital, where that is one from A to Z: the dotless i has I, the long s has S
abbrev pub capital_of : ℕ → Option ℕ
capital_of c = if c == 0x131 then Some 73 else if c == 0x17F then Some 83
    else if is_alpha c then Some (to_ascii_uppercase c) else None

-- hyphens, dashes and minus signs, plain and wide
abbrev pub is_hyphen : ℕ → Bool
is_hyphen c = is_one_of (0x2D ∷ 0x2010 ∷ 0x2011 ∷ 0x2012 ∷ 0x2013 ∷ 0x2014 ∷ 0x2015 ∷ 0x2212 ∷
    0xFF0D ∷ []) c

-- slashes, plain and wide
abbrev pub is_slash : ℕ → Bool
is_slash c = is_one_of (0x2F ∷ 0xFF0F ∷ []) c

-- spaces: plain, wide, and the joiner of words
abbrev pub is_space : ℕ → Bool
is_space c = is_one_of (0x20 ∷ 0x2060 ∷ 0x3000 ∷ []) c

-- full stops, plain and wide
abbrev pub is_stop : ℕ → Bool
is_stop c = is_one_of (0x2E ∷ 0xFF0E ∷ []) c

-- a sign between groups, as it is kept: each hyphen, slash, space and full stop as the plain one
abbrev pub sign_of : ℕ → Option ℕ
sign_of c = if is_hyphen c then Some 0x2D else if is_slash c then Some 0x2F
    else if is_space c then Some 0x20 else if is_stop c then Some 0x2E else None

-- what is kept of a character: a digit, a letter as its capital, a sign between groups
abbrev pub kept_char : ℕ → Option ℕ
kept_char c = if is_digit c then Some c else option_or (capital_of c) (sign_of c)

-- what is kept of a text
abbrev pub kept_of : List ℕ → List ℕ
kept_of raw = encode_utf8_all (filter_map kept_char (chars raw))

-- characters are written in UTF-8 as what begins so
abbrev pub begins_so : (front t : List ℕ) → Bool
begins_so front t = starts_with nat_eq (encode_utf8_all t) front

-- the longest end of a text that begins so
abbrev pub from_first : (front t : List ℕ) → Option (List ℕ)
from_first front [] = None
from_first front (c ∷ cs) = if begins_so front (c ∷ cs) then Some (c ∷ cs) else from_first front cs

-- the first three of more than three digits
abbrev pub first_three : List ℕ → Option (List ℕ)
first_three digits = if nat_lt 3 (length digits) then Some (take 3 digits) else None

-- a text from where the first three of a number's digits stand in it for the first time; all of it
-- where they don't, and where the number has no more
abbrev pub from_digits : (digits t : List ℕ) → List ℕ
from_digits digits t = unwrap_or (option_and_then (λ front. from_first front t)
    (first_three digits)) t

-- what is kept of a text in which a number of these digits was written
abbrev pub written : (raw digits : List ℕ) → List ℕ
written raw digits = encode_utf8_all (from_digits digits (chars (kept_of raw)))
