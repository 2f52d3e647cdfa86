use Rattle.phone_columns.proofs.AnswersOnce.{answer_once, answers_once}
use Rattle.phone_columns.proofs.laws.one_answer.Goals as goal

pub returns : goal.returns
returns c = record { row = answer_once; rows = answers_once }
