use Rattle.std.proofs.Common.{take}
use Rattle.phone_columns.specs.Texts.{AreTexts}
use Rattle.phone_columns.proofs.printed.print_rows.Given as goal

abbrev pub invariant-loop-answer : goal.invariant-loop-answer
invariant-loop-answer l = AreTexts l.engine.rules l.engine.database.now l.mode (take l.answer-index l.answers) l.printed
