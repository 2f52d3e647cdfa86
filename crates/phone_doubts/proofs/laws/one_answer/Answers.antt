use Rattle.phone_doubts.proofs.Answered.{answer_same}
use Rattle.phone_doubts.proofs.laws.one_answer.Goals as goal

pub returns : goal.returns
returns c = answer_same
