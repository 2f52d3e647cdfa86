use Rattle.phone_plain.proofs.Parting.{digit_read}
use Rattle.phone_plain.proofs.atoms.part.Goals as goal

pub returns-in-Ok : goal.returns-in-Ok
returns-in-Ok c =
    digit_read c.args.text.now c.in-Ok.rest.now c.in-Ok.byte c.in_ok-one_byte.field-0 c.in-Ok.ensures.is c.in-Ok.ensures.low c.in-Ok.ensures.high
    c.in_ok-one_byte.ensures
