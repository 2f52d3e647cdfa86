use Rattle.phone_answers.proofs.SomeTold.{loaded_one}
use Rattle.phone_answers.proofs.laws.loaded_tables.Goals as goal

pub returns : goal.returns
returns c = loaded_one
