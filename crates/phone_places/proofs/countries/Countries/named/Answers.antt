use Rattle.std.proofs.Common.{arith, sym}
use Rattle.phone_places.proofs.Rising.{all_above, all_below, none_left, region_found}
use Rattle.phone_places.proofs.countries.Countries.named.Goals as goal

pub loop-start-preserved-in-Less : goal.loop-start-preserved-in-Less
loop-start-preserved-in-Less c = record {
  in_order = omega arith;
  within = c.loop-start.invariant.within;
  below =
      all_below _ (rw (← c.self.view_is) c.self.invariant) _ _ c.index-entry.result.now (rw c.self.view_is at c.index-entry.ensures) (omega arith)
      (sym (rw c.as_str.ensures.value at c.in-Less.ensures));
  above = c.loop-start.invariant.above;
}

pub returns-in-Equal : goal.returns-in-Equal
returns-in-Equal c =
    region_found _ (rw (← c.self.view_is) c.self.invariant) _ _ c.index-entry.result.now (rw c.self.view_is at c.index-entry.ensures) (omega arith)
    (sym (rw c.as_str.ensures.value at c.in-Equal.ensures))

pub loop-start-preserved : goal.loop-start-preserved
loop-start-preserved c = record {
  in_order = omega arith;
  within = omega arith;
  below = c.loop-start.invariant.below;
  above =
      all_above _ (rw (← c.self.view_is) c.self.invariant) _ _ c.index-entry.result.now (rw c.self.view_is at c.index-entry.ensures) (omega arith)
      (sym (rw c.as_str.ensures.value at c.in-Greater.ensures));
}

pub returns : goal.returns
returns c = none_left _ _ _ _ c.loop-start-test.false c.loop-start.invariant.below c.loop-start.invariant.above
