use Rattle.std.proofs.Common.{◌≡◌, ◌<◌, ◌-◌, ◌^◌, ℕ, List, [], Option, length, vec_len}
use Rattle.phone_device.specs.Passing.{Passes}
use Rattle.phone_lines.specs.Runs.{Stands}
use Rattle.phone_lines.proofs.blocks.take_blocks.Given as goal

abbrev pub invariant-blocks-2 : goal.invariant-blocks-2
invariant-blocks-2 g l = record {
  bytes : List ℕ;
  counted : length bytes ≡ l.read;
  passed : Passes (g.S.ByteSource.to_come l.initial.source) bytes (g.S.ByteSource.to_come l.source);
  on : (first : g.row.T.Denot) (before : Option (List ℕ)) →
      Stands g.T.LineTaker.begins g.T.LineTaker.gives first [] l.initial.pending.line.items l.initial.taker l.initial.pending.answers.items before (g.W.ByteSink.taken l.initial.sink) →
      Stands g.T.LineTaker.begins g.T.LineTaker.gives first bytes l.pending.line.items l.taker l.pending.answers.items before (g.W.ByteSink.taken l.sink);
  no_source_fault : g.S.ByteSource.faults l.source ≡ g.S.ByteSource.faults l.initial.source;
  no_sink_fault : g.W.ByteSink.faults l.sink ≡ g.W.ByteSink.faults l.initial.sink;
  short : vec_len l.pending.answers < 8192;
}

abbrev pub decreases-blocks-2 : goal.decreases-blocks-2
decreases-blocks-2 g l = 2 ^ 64 - 1 - l.read
