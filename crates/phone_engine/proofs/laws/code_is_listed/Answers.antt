use Rattle.phone_engine.proofs.OneReading.{code-listed}
use Rattle.phone_engine.proofs.laws.code_is_listed.Goals as goal

pub returns : goal.returns
returns c = code-listed
