use Rattle.std.proofs.Common.{take}
use Rattle.phone_commands.specs.EncodedJobs.{Asked}
use Rattle.phone_commands.specs.Inputs.{AreAnswered}
use Rattle.phone_lines.specs.Ends.{seen}
use Rattle.phone_commands.proofs.inputs.on_inputs.Given as goal

abbrev pub invariant-loop-name : goal.invariant-loop-name
invariant-loop-name g l = AreAnswered (Asked l.asks g.J.Job.acts) l.initial.job
    (seen (g.S.ByteSource.to_come l.initial.input) (g.S.ByteSource.faults l.initial.input)
    (g.W.ByteSink.taken l.initial.sink) (g.W.ByteSink.faults l.initial.sink)
    (g.W.ByteSink.unflushed l.initial.sink))
    (take l.name-index l.files)
    (seen (g.S.ByteSource.to_come l.input) (g.S.ByteSource.faults l.input)
    (g.W.ByteSink.taken l.sink) (g.W.ByteSink.faults l.sink) (g.W.ByteSink.unflushed l.sink))
    l.job
