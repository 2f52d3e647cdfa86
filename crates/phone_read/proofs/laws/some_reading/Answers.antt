use Rattle.std.proofs.Common.{Err, chars}
use Rattle.phone_values.specs.declared.error.ParseError.TheVariants.{NoNumber}
use Rattle.phone_parts.specs.Parts.{parts_of}
use Rattle.phone_read.specs.Readings
use Rattle.phone_read.proofs.ReadingSome.{some_of_parts}
use Rattle.phone_read.proofs.laws.some_reading.Goals as goal

pub returns-in-Some : goal.returns-in-Some
returns-in-Some c db hint =
    some_of_parts db hint (chars c.args.text.now) (parts_of c.in-Some.number) c.in-Some.ensures.read c.is_viable-viable.result
    (rw c.as_str.ensures.value at c.is_viable-viable.ensures)

pub returns-in_default : goal.returns-in_default
returns-in_default c db hint = (Err NoNumber, Readings.no_parts c.in_default.ensures.read)
