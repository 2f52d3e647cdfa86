use Rattle.phonenumber.proofs.Keys.{same_key}
use Rattle.phonenumber.proofs.laws.key.Goals as goal

pub returns : goal.returns
returns c = same_key
