use Rattle.std.proofs.Common.{refl, arith, sym, ◌∙◌}
use Rattle.phone_matches.proofs.Firsts.{tried_end, tried_next, tried_stops}
use Rattle.phone_matches.proofs.tries.count_tried.Goals as goal

pub loop-at-init : goal.loop-at-init
loop-at-init c = refl

pub returns-then-not-is_next-clause-tried : goal.returns-then-not-is_next-clause-tried
returns-then-not-is_next-clause-tried c =
    tried_stops c.args.tries c.args.pieces.now c.loop-at.at c.loop-at.left c.loop-at.behind_front c.loop-at.invariant
    (omega (arith, c.loop-at-test.true)) (sym c.is_next.ensures ∙ c.if-not-is_next.true)

pub loop-at-preserved : goal.loop-at-preserved
loop-at-preserved c =
    tried_next c.args.tries c.args.pieces.now c.loop-at.at _ c.loop-at.left _ c.loop-at.behind_front _ _ c.loop-at.invariant
    (omega (arith, c.loop-at-test.true)) (omega arith) (sym c.is_next.ensures ∙ c.if-not-is_next.false)
    c.is_front_next-behind_front.ensures c.saturating_sub-left.ensures

pub returns-clause-tried : goal.returns-clause-tried
returns-clause-tried c =
    tried_end c.args.tries c.args.pieces.now c.loop-at.at c.loop-at.left c.loop-at.behind_front c.loop-at.invariant
    (omega (arith, c.loop-at-test.false, c.loop-at.auto.at-end))
