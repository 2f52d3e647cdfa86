use Rattle.std.proofs.Common.{take}
use Rattle.phone_columns.specs.Texts.{AreTextsInModes}
use Rattle.phone_columns.proofs.texts.print_in_modes.Given as goal

abbrev pub invariant-loop-answer : goal.invariant-loop-answer
invariant-loop-answer l = AreTextsInModes l.engine.rules l.engine.database.now (take l.answer-index l.answers) l.all
