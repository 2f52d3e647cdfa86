use Rattle.phone_laws.proofs.Keys.{with_keys-again}
use Rattle.phone_laws.proofs.questions.keys_once.Goals as goal

pub returns : goal.returns
returns c = with_keys-again
