use Rattle.std.proofs.Common.{◌≡◌, length}
use Rattle.phone_device.proofs.PassingLemmas.{TakenSoFar}
use Rattle.phone_device.proofs.sink.write_all.Given as goal

abbrev pub invariant-loop-rest : goal.invariant-loop-rest
invariant-loop-rest g l = record {
  so_far : TakenSoFar (g.S.ByteSink.taken l.initial.sink) l.bytes l.rest (g.S.ByteSink.taken l.sink);
  same_faults : g.S.ByteSink.faults l.sink ≡ g.S.ByteSink.faults l.initial.sink;
}

abbrev pub decreases-loop-rest : goal.decreases-loop-rest
decreases-loop-rest g l = length l.rest
