use Rattle.std.proofs.Common.{◌≡◌, ◌-◌, ◌^◌}
use Rattle.std.specs.Prelude.{vec_len}
use Rattle.phone_device.specs.Passing.{Passes}
use Rattle.phone_device.proofs.source.read_all.Given as goal

abbrev pub invariant-blocks-2 : goal.invariant-blocks-2
invariant-blocks-2 g l = record {
  passed : Passes (g.S.ByteSource.to_come l.initial.source) l.bytes.items (g.S.ByteSource.to_come l.source);
  same_faults : g.S.ByteSource.faults l.source ≡ g.S.ByteSource.faults l.initial.source;
}

abbrev pub decreases-blocks-2 : goal.decreases-blocks-2
decreases-blocks-2 g l = 2 ^ 63 - vec_len l.bytes
