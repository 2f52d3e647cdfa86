-- How many slashes may stand in the text of a number: as libphonenumber allows them where it asks
-- for groups. Texts are lists of characters.
use Rattle.std.specs.Prelude.{ℕ, ◌==◌, ◌&&◌, not, nat_lt, Bool, true, false, if◌then◌else◌}
use Rattle.std.specs.Prelude.{List, count_by}
use Rattle.std.specs.Fmt.{decimal}
use Rattle.std.specs.List.{filter_map}
use Rattle.std.specs.Str.{bytes_eq}
use Rattle.phone_chars.specs.Cuts.{front}
use Rattle.phone_library_text.specs.Letters.{value_of}
use Rattle.phone_values.specs.Codes.{CallingCode}
use Rattle.phone_values.specs.declared.country.Source.{Source}
use Rattle.phone_values.specs.declared.country.Source.TheVariants as source

-- the slash
abbrev pub is_slash : ℕ → Bool
is_slash c = c == 47

-- any other character
abbrev pub is_no_slash : ℕ → Bool
is_no_slash c = not (is_slash c)

-- a calling code is written in the text, behind a plus sign or as digits alone
abbrev pub is_written : Source → Bool
is_written source.Plus = true
is_written source.Number = true
is_written source.Idd = false
is_written source.Default = false

-- the digits before the first slash are the calling code's, which is written
abbrev pub parts_code : CallingCode → List ℕ → Bool
parts_code code t = is_written code.source &&
    bytes_eq (filter_map value_of (front is_no_slash t)) (decimal code.value)

-- the slashes that may be there: one, and one more that parts the calling code from the rest
abbrev pub allowed_slashes : CallingCode → List ℕ → ℕ
allowed_slashes code t = if parts_code code t then 2 else 1

-- more stand there
abbrev pub has_many_slashes : CallingCode → List ℕ → Bool
has_many_slashes code t = nat_lt (allowed_slashes code t) (count_by is_slash t)
