-- Numbers for rows.
use Rattle.std.specs.Prelude.{ℕ, List, Option, None}
use Rattle.phone_values.specs.declared.country.Source.{Source}
use Rattle.phone_values.specs.declared.reading.Reading.{Reading}

-- a number of a calling code, how it was found, zeros and a value, perhaps with an extension
abbrev pub number : ℕ → Source → ℕ → ℕ → Option (List ℕ) → Reading
number code source zeros value extension =
    record {
      code = record { source = source; value = code };
      national = record { zeros = zeros; value = value };
      extension = extension;
      carrier = None;
    }
