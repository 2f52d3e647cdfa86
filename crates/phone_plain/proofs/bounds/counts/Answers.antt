use Rattle.std.proofs.Common.{arith}
use Rattle.phone_plain.proofs.Counting.{counts_read}
use Rattle.phone_plain.proofs.bounds.counts.Goals as goal

pub returns : goal.returns
returns c =
    counts_read c.args.text.now c.in_ok-least.after.now c.in_ok-most.rest.now _ c.in_ok-least.ensures c.in_ok-most.ensures
    (omega (arith, c.if-most-eq0.false))
