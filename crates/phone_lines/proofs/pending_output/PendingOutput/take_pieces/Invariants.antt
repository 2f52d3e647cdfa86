use Rattle.std.proofs.Common.{◌≡◌, ◌<◌, ◌++◌, ℕ, List, Option, length, vec_len}
use Rattle.phone_lines.specs.Runs.{Stands}
use Rattle.phone_lines.proofs.pending_output.PendingOutput.take_pieces.Given as goal

abbrev pub invariant-loop-line : goal.invariant-loop-line
invariant-loop-line g l = record {
  taken : List ℕ;
  whole : l.block ≡ taken ++ l.rest;
  on : (first : g.row.T.Denot) (bytes : List ℕ) (before : Option (List ℕ)) →
      Stands g.T.LineTaker.begins g.T.LineTaker.gives first bytes l.initial.self.line.items l.initial.taker l.initial.self.answers.items before (g.W.ByteSink.taken l.initial.sink) →
      Stands g.T.LineTaker.begins g.T.LineTaker.gives first (bytes ++ taken) l.self.line.items l.taker l.self.answers.items before (g.W.ByteSink.taken l.sink);
  short : vec_len l.self.answers < 8192;
  same_faults : g.W.ByteSink.faults l.sink ≡ g.W.ByteSink.faults l.initial.sink;
}

abbrev pub decreases-loop-line : goal.decreases-loop-line
decreases-loop-line g l = length l.rest
