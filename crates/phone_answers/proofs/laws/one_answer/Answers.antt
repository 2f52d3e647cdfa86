use Rattle.phone_answers.proofs.OneAnswers.{one_field_answer}
use Rattle.phone_answers.proofs.laws.one_answer.Goals as goal

pub returns : goal.returns
returns c = one_field_answer
