use Rattle.phone_engine.proofs.ListedLengths.{valid_is_possible}
use Rattle.phone_engine.proofs.question_laws.valid_is_possible.Goals as goal

pub returns : goal.returns
returns c = valid_is_possible
