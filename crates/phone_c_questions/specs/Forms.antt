-- A number that is given as plain numbers, written in a form for who dials it from a region.
use Rattle.std.specs.Prelude.{ℕ, Option, List}
use Rattle.phone_values.specs.declared.country.Id.{Id}
use Rattle.phone_values.specs.declared.reading.Reading.{Reading}
use Rattle.phone_c_base.specs.Hints.{UnderHint}
use Rattle.phone_c_base.specs.Numbers.{IsNumber}
use Rattle.phone_c_base.specs.declared.number.Number as plain

-- the bytes of the region are a hint, the plain numbers and their bytes are a number, and the form
-- writes this of it for who dials from there
abbrev pub IsTextOf : (writes : Option Id → List ℕ → Reading → List ℕ → Type 0) →
    (region raw : List ℕ) → plain.Number → (bytes text : List ℕ) → Type 0
IsTextOf writes region raw x bytes text = UnderHint region
    (λ from. (n : Reading) × IsNumber x bytes n × writes from raw n text)
