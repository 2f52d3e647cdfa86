use Rattle.phone_read.proofs.ReadNumbers.{number-listed}
use Rattle.phone_read.proofs.number_laws.code_is_listed.Goals as goal

pub returns : goal.returns
returns c = number-listed
