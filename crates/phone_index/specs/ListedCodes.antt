-- Calling codes in front of digits, and codes whose decimal texts begin one another's.
use Rattle.std.specs.Prelude.{ℕ, ◌==◌, ◌&&◌, not, nat_le, Bool, if◌then◌else◌, List, length, take}
use Rattle.std.specs.Prelude.{Option, None, Some, codes}
use Rattle.std.specs.Fmt.{decimal}
use Rattle.std.specs.List.{list_all, list_any}
use Rattle.std.specs.Option.{option_or}
use Rattle.std.specs.Str.{all_ascii_digits, bytes_eq}
use Rattle.std.specs.Str.Parse.{digits_value}

-- a code is one of these
abbrev pub is_in : ℕ → List ℕ → Bool
is_in code listed = list_any (λ c. c == code) listed

-- the number that the first k bytes write, where each is an ASCII digit
abbrev pub front_number : ℕ → List ℕ → Option ℕ
front_number k text = if nat_le k (length text) &&
    all_ascii_digits (take k text) then Some (digits_value 10 (take k text)) else None

-- the decimal text of one number begins that of another, which is not the same number
unfoldable pub begins : ℕ → ℕ → Bool
begins a b = not (a == b) && bytes_eq (take (length (decimal a)) (decimal b)) (decimal a)

-- a number, where it is one of these codes
abbrev pub if_in : List ℕ → Option ℕ → Option ℕ
if_in listed None = None
if_in listed (Some number) = if is_in number listed then Some number else None

-- the code of these that stands in front of a text: the shortest, of one to three digits; none
-- where the text begins with `0`
abbrev pub shortest : List ℕ → List ℕ → Option ℕ
shortest listed text = if bytes_eq (take 1 text) (codes "0") then None
    else option_or (if_in listed (front_number 1 text))
    (option_or (if_in listed (front_number 2 text)) (if_in listed (front_number 3 text)))

-- no code of these has a decimal text that begins another's
abbrev pub is_prefix_free : List ℕ → Bool
is_prefix_free listed = list_all (λ a. list_all (λ b. not (begins a b)) listed) listed
