use Rattle.std.proofs.Common.{length}
use Rattle.phone_compact.proofs.Lists.{GoesOn, IsToCome}
use Rattle.phone_compact.proofs.values.read_items.Given as goal

abbrev pub invariant-loop-items : goal.invariant-loop-items
invariant-loop-items g l =
    let form = g.T.Compact.form in
    GoesOn form l.fn.from l.items.items l.from × IsToCome form l.fn.from l.from

abbrev pub decreases-loop-items : goal.decreases-loop-items
decreases-loop-items g l = length l.from
