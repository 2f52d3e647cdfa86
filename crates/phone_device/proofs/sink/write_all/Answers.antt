use Rattle.std.proofs.Common.{rules}
use Rattle.phone_device.proofs.PassingLemmas.{TakenSoFar-then, same_after}
use Rattle.phone_device.proofs.sink.write_all.Goals as goal

pub loop-rest-preserved : goal.loop-rest-preserved
loop-rest-preserved g c = record {
  so_far = rw c.split_at.ensures.back
      (TakenSoFar-then _ (g.S.ByteSink.taken c.loop-rest.sink) _ _ _ _ c.loop-rest.invariant.so_far c.in_ok-n.ensures.takes);
  same_faults = same_after _ _ _ c.in_ok-n.n _ c.in_ok-n.ensures.stalled (search rules) c.loop-rest.invariant.same_faults;
}
