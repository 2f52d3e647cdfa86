use Rattle.std.proofs.Common.{arith}
use Rattle.phone_plain.proofs.Counting.{no_upper, with_upper}
use Rattle.phone_plain.proofs.bounds.upper.Goals as goal

pub returns-in-Ok : goal.returns-in-Ok
returns-in-Ok c = no_upper c.args.least c.args.text.now c.in-Ok.rest.now c.in-Ok.ensures

pub returns : goal.returns
returns c =
    with_upper c.args.least c.in_ok-most.most c.args.text.now c.in_ok-behind.field-0.now c.in_ok-most.end.now c.in_ok-rest.rest.now
    c.in_ok-behind.ensures c.in_ok-most.ensures c.in_ok-rest.ensures (omega (arith, c.if-most-least.false))
