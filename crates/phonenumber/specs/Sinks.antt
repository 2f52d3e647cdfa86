-- What is written where a number is printed to a sink.
use Rattle.std.specs.Prelude.{◌≡◌, ◌⊎◌, ℕ, List, Option, Some, Result, ⊤, IsErr}
use Rattle.std.specs.Fmt.{WritesOnOk, WritesStyledOnOk}
use Rattle.std.specs.declared.fmt.Error.{Error}
use Rattle.std.specs.declared.fmt.Formatter.{Formatter}

-- the text went to the sink in one call, whose answer is given; or an error is answered, and the
-- sink is as it was
abbrev pub IsWrittenWhole : {S : Type 0} → (S → List ℕ → Result ⊤ Error → S → Type 0) →
    Option (List ℕ) → S → Result ⊤ Error → S → Type 0
IsWrittenWhole gives text before result after =
    ((t : List ℕ) × (text ≡ Some t) × gives before t result after)
    ⊎ (IsErr result × (after ≡ before))

-- one `write_str` of a formatter: where it is answered by `Ok` the text is written
abbrev pub puts : {W : Type 0} → (W → List ℕ → W → Type 0) → Formatter W → List ℕ →
    Result ⊤ Error → Formatter W → Type 0
puts took f text result g =
    (WritesOnOk took f result text g) × (WritesStyledOnOk took f result text g)
