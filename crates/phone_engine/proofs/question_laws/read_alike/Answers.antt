use Rattle.phone_engine.proofs.Taken.{read_alike}
use Rattle.phone_engine.proofs.question_laws.read_alike.Goals as goal

pub returns : goal.returns
returns c = read_alike
