use Rattle.std.proofs.Common.{take}
use Rattle.phone_cli.specs.Streams.{joined}
use Rattle.phone_cli.proofs.WriteLemmas.{AreWritten}
use Rattle.phone_cli.proofs.say.write_texts.Given as goal

abbrev pub invariant-loop-text : goal.invariant-loop-text
invariant-loop-text g l = AreWritten (joined (take l.text-index l.texts))
    (g.E.ByteSink.taken l.initial.errors) (g.E.ByteSink.faults l.initial.errors)
    (g.E.ByteSink.taken l.errors) (g.E.ByteSink.faults l.errors)
