use Rattle.std.proofs.Common.{◌≤◌, slice_range, take}
use Rattle.phone_engine.proofs.SomeReports.{HaveSoFar}
use Rattle.phone_engine.proofs.laws.some_report.Given as goal

abbrev pub invariant-loop-end : goal.invariant-loop-end
invariant-loop-end l = record {
  in_front : l.start ≤ l.end;
  have : HaveSoFar (take l.end l.bytes) (slice_range l.bytes l.start l.end);
}
