-- What the verdicts on a number's length mean: after the original's `validator`.
use Rattle.std.specs.Prelude.{Bool, true, false}
use Rattle.phone_values.specs.declared.validator.Validation.{Validation}
use Rattle.phone_values.specs.declared.validator.Validation.TheVariants.{IsPossible}
use Rattle.phone_values.specs.declared.validator.Validation.TheVariants.{IsPossibleLocalOnly}
use Rattle.phone_values.specs.declared.validator.Validation.TheVariants.{InvalidCountryCode}
use Rattle.phone_values.specs.declared.validator.Validation.TheVariants.{TooShort}
use Rattle.phone_values.specs.declared.validator.Validation.TheVariants.{InvalidLength, TooLong}

-- possible: the number can be dialled, be it only within its area
abbrev pub is_possible : Validation → Bool
is_possible IsPossible = true
is_possible IsPossibleLocalOnly = true
is_possible _ = false

-- invalid by its length: too short, too long, or of another length that is not possible
abbrev pub is_invalid_length : Validation → Bool
is_invalid_length TooShort = true
is_invalid_length InvalidLength = true
is_invalid_length TooLong = true
is_invalid_length _ = false

-- invalid: by its calling code, or by its length
abbrev pub is_invalid : Validation → Bool
is_invalid InvalidCountryCode = true
is_invalid v = is_invalid_length v
