-- The calling code of a number, and the digits that follow it: as libphonenumber finds it.
use Rattle.std.specs.Prelude.{ℕ, ◌&&◌, ◌||◌, not, nat_le, Bool, true, false, if◌then◌else◌, List}
use Rattle.std.specs.Prelude.{length, drop, Option, None, Some, Result, Ok, Err}
use Rattle.std.specs.Fmt.{decimal}
use Rattle.std.specs.Option.{option_map_or}
use Rattle.phone_values.specs.declared.country.Source.{Source}
use Rattle.phone_values.specs.declared.country.Source.TheVariants.{Plus, Idd, Number, Default}
use Rattle.phone_values.specs.declared.error.ParseError.{ParseError}
use Rattle.phone_values.specs.declared.error.ParseError.TheVariants.{InvalidCountryCode}
use Rattle.phone_values.specs.declared.error.ParseError.TheVariants.{TooShortAfterIdd}
use Rattle.phone_library.specs.Kinds.{matches_whole}
use Rattle.phone_library.specs.Lengths.{is_too_long, length_in}
use Rattle.phone_library.specs.Stripping.{strip}
use Rattle.phone_parts.specs.Texts.{is_front}
use Rattle.phone_read.specs.Dialling.{after_match, found_in}
use Rattle.phone_read.specs.CallingCodes.{code_by_front}
use Rattle.phone_read.specs.Hints.{Coded}
use Rattle.phone_records.specs.declared.loader.Metadata.{Metadata}
use Rattle.phone_territory.specs.Records.{code_of}

-- after a plus sign or an international prefix: more than two digits, the shortest listed code
-- first
abbrev pub code_after_sign : List Metadata → Source → List ℕ → Result Coded ParseError
code_after_sign db source digits = if nat_le (length digits) 2 then Err TooShortAfterIdd
    else code_by_front db source digits

-- the digits without the calling code of the hint's territory, and without what it strips
abbrev pub behind_code : Metadata → List ℕ → List ℕ
behind_code m digits = (strip m (drop (length (decimal (code_of m))) digits)).national

-- digits that begin with the code of the hint's territory are an international number without its
-- sign: only without the code do they match its general pattern, or with it they are too long
abbrev pub has_code : Metadata → List ℕ → Bool
has_code m digits =
    is_front (decimal (code_of m)) digits &&
    ((not (matches_whole m.general digits) && matches_whole m.general (behind_code m digits)) ||
    is_too_long (length_in m (length digits)))

-- in any other number the code is that of the hint's territory, and all digits follow it
abbrev pub code_by_territory : Metadata → List ℕ → Coded
code_by_territory m digits =
    if has_code m digits
    then record { source = Number; value = code_of m; rest = behind_code m digits }
    else record { source = Default; value = code_of m; rest = digits }

-- without a plus sign: the code after the hint's international prefix, else by the hint's territory
abbrev pub code_by_hint : List Metadata → Option Metadata → List ℕ → Result Coded ParseError
code_by_hint db None digits = Err InvalidCountryCode
code_by_hint db (Some m) digits =
    option_map_or (λ after. code_after_sign db Idd after)
    (after_match digits (found_in m.international_prefix digits)) (Ok (code_by_territory m digits))

-- the hint's code alone counts for none
abbrev pub unless_default : Source → Coded → Result Coded ParseError
unless_default Default coded = Err InvalidCountryCode
unless_default source coded = Ok coded

-- where no code was cut off, there is none after a plus sign
abbrev pub cut_off : Result Coded ParseError → Result Coded ParseError
cut_off (Ok coded) = unless_default coded.source coded
cut_off (Err e) = Err e

-- after a plus sign without a listed code the digits are read again as if it weren't there
abbrev pub or_by_hint : List Metadata → Option Metadata → List ℕ → Result Coded ParseError →
    Result Coded ParseError
or_by_hint db m digits (Err InvalidCountryCode) = cut_off (code_by_hint db m digits)
or_by_hint db m digits coded = coded

-- the code of a number's digits, with a plus sign before them or without
abbrev pub code_in : List Metadata → Option Metadata → Bool → List ℕ → Result Coded ParseError
code_in db m true digits = or_by_hint db m digits (code_after_sign db Plus digits)
code_in db m false digits = code_by_hint db m digits
