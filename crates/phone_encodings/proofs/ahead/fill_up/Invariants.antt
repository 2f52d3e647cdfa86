use Rattle.std.proofs.Common.{◌≡◌, ◌-◌, ◌++◌, ℕ, List, length}
use Rattle.phone_device.specs.Passing.{Passes}
use Rattle.phone_encodings.proofs.ahead.fill_up.Given as goal

abbrev pub invariant-loop-held : goal.invariant-loop-held
invariant-loop-held g l = record {
  read : (read : List ℕ) × (l.held ≡ l.initial.held ++ read) ×
      Passes (g.S.ByteSource.to_come l.initial.source) read (g.S.ByteSource.to_come l.source);
  same_faults : g.S.ByteSource.faults l.source ≡ g.S.ByteSource.faults l.initial.source;
}

abbrev pub decreases-loop-held : goal.decreases-loop-held
decreases-loop-held g l = 2 - length l.held
