use Rattle.phone_read.proofs.DecimalFronts.{read-told, refused-told}
use Rattle.phone_read.proofs.trims.is_number.Goals as goal

pub returns-in-Ok : goal.returns-in-Ok
returns-in-Ok c = read-told c.args.text.now c.args.number c.in-Ok.read c.ranges.number.fits c.requires c.in-Ok.ensures.value.0

pub returns-in-Err : goal.returns-in-Err
returns-in-Err c = refused-told c.args.text.now c.args.number c.ranges.number.fits c.in-Err.ensures.value.0
