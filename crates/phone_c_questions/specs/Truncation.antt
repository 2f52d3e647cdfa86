-- What is left of a number that has too many digits, as plain numbers.
use Rattle.std.specs.Prelude.{◌≡◌, ℕ, List, Option, None, Some}
use Rattle.phone_values.specs.declared.reading.Reading.{Reading}
use Rattle.phone_records.specs.declared.loader.Metadata.{Metadata}
use Rattle.phone_questions.specs.Truncation.{truncated}
use Rattle.phone_c_base.specs.Numbers.{HasNumbers}
use Rattle.phone_c_base.specs.declared.number.Number as plain

-- the plain numbers are those of what is left, with the texts that stood beside them: 1; they are
-- as they were, since nothing is left: 0
abbrev pub IsLeft : plain.Number → Option Reading → plain.Number → ℕ → Type 0
IsLeft x None y told = (told ≡ 0) × (y ≡ x)
IsLeft x (Some t) y told =
    (told ≡ 1) × HasNumbers y t × (y.extension ≡ x.extension) × (y.carrier ≡ x.carrier)

-- so it is of the number without its texts that has these plain numbers
abbrev pub IsTruncated : List Metadata → (before after : plain.Number) → ℕ → Type 0
IsTruncated db x y told = (n : Reading) × HasNumbers x n × (n.extension ≡ None) ×
    (n.carrier ≡ None) × IsLeft x (truncated db n) y told
