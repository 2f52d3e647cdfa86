use Rattle.std.proofs.Common.{◌≡◌, ◌<◌, ◌++◌, ℕ, List, [], Option, take, vec_len}
use Rattle.csv.specs.Records.{partial_of}
use Rattle.csv.specs.declared.parser.State.{State}
use Rattle.phone_csv.specs.RecordReports.{WritesRows}
use Rattle.phone_csv.specs.Runs.{Stands}
use Rattle.phone_csv.proofs.pending_output.PendingOutput.take_block.Given as goal

abbrev pub invariant-loop-byte : goal.invariant-loop-byte
invariant-loop-byte g l = record {
  on : (first : g.row.A.Denot) (start : State) (bytes : List ℕ) (before : Option (List ℕ)) →
      Stands (WritesRows g.A.Answers.gives l.initial.self.cutter.format first l.initial.answers) start bytes l.initial.self.cutter l.initial.self.answers.items before (g.W.ByteSink.taken l.initial.sink) →
      Stands (WritesRows g.A.Answers.gives l.initial.self.cutter.format first l.answers) start (bytes ++ take l.byte-index l.block) l.self.cutter l.self.answers.items before (g.W.ByteSink.taken l.sink);
  partial : partial_of l.self.cutter.fields ≡ [];
  same_format : l.self.cutter.format ≡ l.initial.self.cutter.format;
  same_faults : g.W.ByteSink.faults l.sink ≡ g.W.ByteSink.faults l.initial.sink;
  short : vec_len l.self.answers < 8192;
}
