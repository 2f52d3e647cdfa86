-- The national (significant) number that a text gives once code and prefixes are cut off: after the
-- original's `parser`.
use Rattle.std.specs.Prelude.{ℕ, nat_lt, if◌then◌else◌, List, length, Result, Err}
use Rattle.phone_values.specs.declared.error.ParseError.{ParseError}
use Rattle.phone_values.specs.declared.error.ParseError.TheVariants.{TooShortNsn, TooLong}
use Rattle.phone_values.specs.Numbers.{National, national_in}

-- it has 2 to 17 bytes, and is read as zeros and a value
abbrev pub nsn : List ℕ → Result National ParseError
nsn t = if nat_lt (length t) 2 then Err TooShortNsn else if nat_lt 17 (length t) then Err TooLong
    else national_in t
