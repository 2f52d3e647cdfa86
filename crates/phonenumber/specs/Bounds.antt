-- What every number keeps, whatever it was made of.
use Rattle.std.specs.Prelude.{◌^◌, ◌<◌}
use Rattle.phone_values.specs.Numbers.{IsHeld}
use Rattle.phone_values.specs.declared.reading.Reading.{Reading}

-- what every number keeps that a `PhoneNumber` holds: value and zeros have room in their word, and
-- the code has 16 bits
pub record IsBounded (n : Reading) : Type 0 where
  pub national : IsHeld n.national
  pub code : n.code.value < 2 ^ 16
