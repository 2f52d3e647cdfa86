use Rattle.std.proofs.Common.{take}
use Rattle.phone_cli.specs.Abouts.{region_lines}
use Rattle.phone_cli.proofs.WriteLemmas.{AreWritten}
use Rattle.phone_cli.proofs.about.write_region_lines.Given as goal

abbrev pub invariant-loop-id : goal.invariant-loop-id
invariant-loop-id g l = AreWritten (region_lines (take l.id-index l.regions))
    (g.W.ByteSink.taken l.initial.output) (g.W.ByteSink.faults l.initial.output)
    (g.W.ByteSink.taken l.output) (g.W.ByteSink.faults l.output)
