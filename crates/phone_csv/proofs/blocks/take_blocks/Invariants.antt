use Rattle.std.proofs.Common.{◌≡◌, ◌<◌, ◌-◌, ◌^◌, [], length, vec_len}
use Rattle.csv.specs.Records.{partial_of}
use Rattle.csv.specs.declared.parser.State.{State}
use Rattle.phone_csv.specs.RecordReports.{WritesRows}
use Rattle.phone_csv.specs.Runs.{IsFresh, OfRead, Stands}
use Rattle.phone_csv.proofs.blocks.take_blocks.Given as goal

abbrev pub invariant-blocks-2 : goal.invariant-blocks-2
invariant-blocks-2 g l = record {
  read_bytes : OfRead (g.S.ByteSource.to_come l.initial.source) (g.S.ByteSource.to_come l.source) (λ bytes. (length bytes ≡ l.read) ×
      ((first : g.row.A.Denot) (start : State) →
      IsFresh (WritesRows g.A.Answers.gives l.initial.pending.cutter.format first l.initial.answers) start l.initial.pending.cutter l.initial.pending.answers.items (g.W.ByteSink.taken l.initial.sink) →
      Stands (WritesRows g.A.Answers.gives l.initial.pending.cutter.format first l.answers) start bytes l.pending.cutter l.pending.answers.items (g.W.ByteSink.taken l.initial.sink) (g.W.ByteSink.taken l.sink)));
  partial : partial_of l.pending.cutter.fields ≡ [];
  same_format : l.pending.cutter.format ≡ l.initial.pending.cutter.format;
  source_faults : g.S.ByteSource.faults l.source ≡ g.S.ByteSource.faults l.initial.source;
  sink_faults : g.W.ByteSink.faults l.sink ≡ g.W.ByteSink.faults l.initial.sink;
  short : vec_len l.pending.answers < 8192;
}

abbrev pub decreases-blocks-2 : goal.decreases-blocks-2
decreases-blocks-2 g l = 2 ^ 64 - 1 - l.read
