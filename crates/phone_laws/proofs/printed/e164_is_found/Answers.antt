use Rattle.std.proofs.Common.{chars, refl}
use Rattle.phone_library_laws.specs.Again.{e164_reading}
use Rattle.phone_matches.specs.Leniencies
use Rattle.phone_matches.specs.declared.leniency.Leniency.TheVariants.{Valid}
use Rattle.phone_print.specs.Texts.{e164_text}
use Rattle.phone_laws.proofs.printed.e164_is_found.Goals as goal

pub returns : goal.returns
returns c db alternates hint tries n all some settled valid marks whole found =
    c.found_between_spaces.ensures db alternates hint Valid tries (chars (e164_text n)) (e164_reading n) all some whole
    (record { read = c.e164_again.ensures db hint n settled; enough = Leniencies.valid (record { valid = valid; marks = marks; prefix = refl }) }) found
