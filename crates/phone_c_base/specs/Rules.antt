-- Rules by their number.
use Rattle.std.specs.Prelude.{ℕ}
use Rattle.phone_values.specs.declared.rules.Rules.{Rules}
use Rattle.phone_values.specs.declared.rules.Rules.TheVariants.{Library, Crate}

-- rules by their number
abbrev pub rules_number : Rules → ℕ
rules_number Library = 0
rules_number Crate = 1
