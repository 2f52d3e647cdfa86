use Rattle.std.proofs.Common.{arith}
use Rattle.phone_automaton.proofs.Parting.{before_all, more_before}
use Rattle.phone_automaton.proofs.parts.cells_before.Goals as goal

pub loop-i-init : goal.loop-i-init
loop-i-init c = rw (c.in_ok-push.ensures.items, c.new-cells.ensures.items) before_all

pub loop-i-preserved : goal.loop-i-preserved
loop-i-preserved c =
    let (b, cell) = c.loop-i.invariant in
    let (n, one, next) = c.in-Some.ensures in
    rw (c.in_ok-push-3.ensures.items, c.in_ok-push-2.ensures.items)
    (more_before c.loop-i.cells.items c.args.subs.now c.loop-i.i n c.in-Some.next c.index-subs-i.result c.loop-i-test.true c.index-subs-i.is b one
    (omega (arith, cell, next)))
