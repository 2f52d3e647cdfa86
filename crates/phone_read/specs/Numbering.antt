-- The number that is left once code and prefixes are cut off: after the original's `parser`.
use Rattle.std.specs.Prelude.{ℕ, List, Option, Result}
use Rattle.std.specs.Result.{result_map_both}
use Rattle.phone_values.specs.Nsn.{nsn}
use Rattle.phone_values.specs.declared.error.ParseError.{ParseError}
use Rattle.phone_read.specs.Hints.{Coded}
use Rattle.phone_read.specs.Strips.{Stripped}
use Rattle.phone_values.specs.declared.reading.Reading.{Reading}

-- the code, the national number that the digits give, an extension, and the carrier that was named;
-- refused as the digits are
abbrev pub reading_of : Coded → Option (List ℕ) → Stripped → Result Reading ParseError
reading_of c extension s =
    result_map_both (λ n. record {
      code = record { value = c.value; source = c.source };
      national = n;
      extension = extension;
      carrier = s.carrier;
    }) (λ e. e) (nsn s.national)
