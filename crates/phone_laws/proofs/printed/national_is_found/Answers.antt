use Rattle.std.proofs.Common.{Some, chars}
use Rattle.phone_library.specs.Readings.{stripped}
use Rattle.phone_library_laws.specs.Printed.{inside_reading}
use Rattle.phone_matches.specs.Leniencies
use Rattle.phone_matches.specs.declared.leniency.Leniency.TheVariants.{Valid}
use Rattle.phone_laws.proofs.printed.national_is_found.Goals as goal

pub returns : goal.returns
returns c rules db alternates hint tries m n text all some there plain e valid whole found =
    c.found_between_spaces.ensures db alternates hint Valid tries (chars text)
    (inside_reading n (stripped (Some m) plain.layout.digits).carrier) all some whole
    (record { read = c.national_again.ensures.inside rules db hint m n text there plain e; enough = Leniencies.valid valid }) found
