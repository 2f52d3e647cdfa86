-- How like two numbers are: as libphonenumber's `isNumberMatch` tells. No calling code is 0, so a
-- number of that code is one whose code isn't known.
use Rattle.std.specs.Prelude.{ℕ, ◌==◌, ◌&&◌, ◌||◌, not, nat_eq, Bool, true, false, if◌then◌else◌}
use Rattle.std.specs.Prelude.{List, [], ◌∷◌, Option, None, Some}
use Rattle.std.specs.Fmt.{decimal}
use Rattle.std.specs.List.{ends_with}
use Rattle.std.specs.Str.{bytes_eq}
use Rattle.phone_values.specs.Numbers.{National}
use Rattle.phone_values.specs.declared.reading.Reading.{Reading}
use Rattle.phone_questions.specs.declared.matches.NumberMatch.{NumberMatch}
use Rattle.phone_questions.specs.declared.matches.NumberMatch.TheVariants.{ExactMatch, NoMatch}
use Rattle.phone_questions.specs.declared.matches.NumberMatch.TheVariants.{NsnMatch, ShortNsnMatch}

-- an extension counts where it isn't empty
abbrev pub extension_told : Option (List ℕ) → Option (List ℕ)
extension_told None = None
extension_told (Some []) = None
extension_told (Some (c ∷ cs)) = Some (c ∷ cs)

-- both are absent, or of one text
abbrev pub is_one_extension : Option (List ℕ) → Option (List ℕ) → Bool
is_one_extension None None = true
is_one_extension (Some e) (Some f) = bytes_eq e f
is_one_extension _ _ = false

-- both are there, and of two texts
abbrev pub are_two_extensions : Option (List ℕ) → Option (List ℕ) → Bool
are_two_extensions (Some e) (Some f) = not (bytes_eq e f)
are_two_extensions _ _ = false

-- one value after as many zeros
abbrev pub is_one_national : National → National → Bool
is_one_national a b = (a.zeros == b.zeros) && (a.value == b.value)

-- one national number, and one extension
abbrev pub is_one_number : Reading → Reading → Bool
is_one_number a b = is_one_national a.national b.national &&
    is_one_extension (extension_told a.extension) (extension_told b.extension)

-- the digits of one value, without zeros before them, are an end of the other's
abbrev pub is_end_of_either : ℕ → ℕ → Bool
is_end_of_either x y =
    ends_with nat_eq (decimal y) (decimal x) || ends_with nat_eq (decimal x) (decimal y)

-- one number is so like; else the end of one may be the other
abbrev pub match_as : NumberMatch → Reading → Reading → NumberMatch
match_as whole a b =
    if is_one_number a b then whole
    else if is_end_of_either a.national.value b.national.value then ShortNsnMatch
    else NoMatch

-- two calling codes may match: they are one, or one of them isn't known
abbrev pub are_unlike_codes : ℕ → ℕ → Bool
are_unlike_codes x y = not ((x == y) || (x == 0) || (y == 0))

-- a calling code that isn't known
abbrev pub lacks_code : Reading → Reading → Bool
lacks_code a b = (a.code.value == 0) || (b.code.value == 0)

-- how like two numbers are: not at all where both have an extension and these differ, or both a
-- calling code
abbrev pub match_of : Reading → Reading → NumberMatch
match_of a b =
    if are_two_extensions (extension_told a.extension) (extension_told b.extension) then NoMatch
    else if are_unlike_codes a.code.value b.code.value then NoMatch
    else match_as (if lacks_code a b then NsnMatch else ExactMatch) a b
