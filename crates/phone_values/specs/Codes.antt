-- Calling codes, which E.164 calls country codes: after the original's `country`.
use Rattle.std.specs.Prelude.{ℕ}
use Rattle.phone_values.specs.declared.country.Source.{Source}

-- a calling code, and how it was found
pub record CallingCode : Type 0 where
  pub value : ℕ
  pub source : Source
