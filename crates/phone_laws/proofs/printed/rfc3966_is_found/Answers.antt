use Rattle.std.proofs.Common.{chars, refl}
use Rattle.phone_library_laws.specs.Printed.{printed_reading}
use Rattle.phone_matches.specs.Leniencies
use Rattle.phone_matches.specs.declared.leniency.Leniency.TheVariants.{Valid}
use Rattle.phone_laws.proofs.BehindScheme.{behind_scheme}
use Rattle.phone_laws.proofs.printed.rfc3966_is_found.Goals as goal

pub returns : goal.returns
returns c rules db alternates hint tries n text t all some settled plain e is no_context valid marks whole found =
    let reads = c.rfc3966_again.ensures.again rules db hint n text settled plain e in
    c.found_behind_scheme.ensures db alternates hint Valid tries t (printed_reading n) all some whole
    (record {
      read = behind_scheme t no_context db hint (printed_reading n) (chars text) is reads;
      enough = Leniencies.valid (record { valid = valid; marks = marks; prefix = refl });
    }) found
