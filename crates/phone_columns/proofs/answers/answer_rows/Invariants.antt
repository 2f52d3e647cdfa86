use Rattle.std.proofs.Common.{take}
use Rattle.phone_columns.specs.Rows.{AreAnswers, hint_at, rows_from}
use Rattle.phone_columns.proofs.answers.answer_rows.Given as goal

abbrev pub invariant-loop-row : goal.invariant-loop-row
invariant-loop-row l = AreAnswers l.engine.rules l.engine.database.now
    (take l.row (rows_from 0 l.given.texts (hint_at l.given.hints))) l.answers.items
