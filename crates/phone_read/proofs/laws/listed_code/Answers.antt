use Rattle.phone_read.proofs.ListedCodes.{code_of-listed}
use Rattle.phone_read.proofs.laws.listed_code.Goals as goal

pub returns : goal.returns
returns c = code_of-listed
