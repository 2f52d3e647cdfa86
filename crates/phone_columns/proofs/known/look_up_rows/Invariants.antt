use Rattle.std.proofs.Common.{take}
use Rattle.phone_columns.specs.Known.{AreKnown}
use Rattle.phone_columns.proofs.known.look_up_rows.Given as goal

abbrev pub invariant-loop-answer : goal.invariant-loop-answer
invariant-loop-answer l = AreKnown l.engine.rules l.engine.database.now (take l.answer-index l.answers) l.known
