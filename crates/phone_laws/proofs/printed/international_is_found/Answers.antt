use Rattle.std.proofs.Common.{chars, refl}
use Rattle.phone_library_laws.specs.Printed.{printed_reading}
use Rattle.phone_matches.specs.Leniencies
use Rattle.phone_matches.specs.declared.leniency.Leniency.TheVariants.{Valid}
use Rattle.phone_laws.proofs.printed.international_is_found.Goals as goal

pub returns : goal.returns
returns c rules db alternates hint tries n text all some settled plain e valid marks whole found =
    c.found_between_spaces.ensures db alternates hint Valid tries (chars text) (printed_reading n) all some whole
    (record { read = c.international_again.ensures.again rules db hint n text settled plain e; enough = Leniencies.valid (record { valid = valid; marks = marks; prefix = refl }) })
    found
