use Rattle.phone_find.proofs.Ones.{one_answer}
use Rattle.phone_find.proofs.laws.one_answer.Goals as goal

pub returns : goal.returns
returns c rules db hint l text all others a b = one_answer rules db hint l text all others a b
