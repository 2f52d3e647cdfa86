use Rattle.std.proofs.Common.{arith, sym}
use Rattle.phone_index.proofs.Halves.{StepsLeft-half, all_above, all_below, none_left, place_found}
use Rattle.phone_index.proofs.sorted.Sorted.find_in.Goals as goal

pub loop-start-preserved-in-Less : goal.loop-start-preserved-in-Less
loop-start-preserved-in-Less c = record {
  in_order = omega arith;
  within = c.loop-start.invariant.within;
  below =
      all_below _ (rw (← c.self.view_is) c.self.invariant) _ _ c.index-entry.result.now (rw c.self.view_is at c.index-entry.ensures) (omega arith)
      (sym (rw c.as_str.ensures.value at c.in-Less.ensures));
  above = c.loop-start.invariant.above;
  steps = rw c.step.ensures (StepsLeft-half _ _ _ _ _ (omega arith) (omega arith) c.loop-start.invariant.steps);
}

pub returns-in-Equal-clause-place : goal.returns-in-Equal-clause-place
returns-in-Equal-clause-place c =
    place_found _ (rw (← c.self.view_is) c.self.invariant) _ _ c.index-entry.result.now (rw c.self.view_is at c.index-entry.ensures) (omega arith)
    (sym (rw c.as_str.ensures.value at c.in-Equal.ensures))

pub loop-start-preserved : goal.loop-start-preserved
loop-start-preserved c = record {
  in_order = omega arith;
  within = omega arith;
  below = c.loop-start.invariant.below;
  above =
      all_above _ (rw (← c.self.view_is) c.self.invariant) _ _ c.index-entry.result.now (rw c.self.view_is at c.index-entry.ensures) (omega arith)
      (sym (rw c.as_str.ensures.value at c.in-Greater.ensures));
  steps = rw c.step.ensures (StepsLeft-half _ _ _ _ _ (omega arith) (omega arith) c.loop-start.invariant.steps);
}

pub returns-clause-place : goal.returns-clause-place
returns-clause-place c = none_left _ _ _ _ c.loop-start-test.false c.loop-start.invariant.below c.loop-start.invariant.above
