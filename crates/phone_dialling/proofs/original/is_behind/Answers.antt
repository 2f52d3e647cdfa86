use Rattle.std.proofs.Common.{refl}
use Rattle.phone_dialling.specs.Original
use Rattle.phone_dialling.proofs.Originals.{behind_so}
use Rattle.phone_dialling.proofs.original.is_behind.Goals as goal

pub returns-in-Some : goal.returns-in-Some
returns-in-Some c =
    behind_so c.args.database.now c.args.hint c.args.prefix.now c.args.digits.now c.in-Some.rest.now c.is_read_valid.result c.in-Some.ensures.found
    c.is_read_valid.ensures

pub returns-in-None : goal.returns-in-None
returns-in-None c = Original.other (c.in-None.ensures.none refl)
