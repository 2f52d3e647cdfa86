use Rattle.phone_columns.proofs.OffsetLemmas.{texts_more}
use Rattle.phone_columns.proofs.printed.print_rows.Goals as goal

pub loop-answer-preserved : goal.loop-answer-preserved
loop-answer-preserved c =
    texts_more c.args.engine.rules c.args.engine.database.now c.args.mode c.args.answers.now c.loop-answer.answer-index
    c.answer-item.result c.loop-answer.printed c.push.new.self
    c.loop-answer-test.true c.answer-item.is c.loop-answer.invariant c.in_ok-push.ensures
