use Rattle.phone_table.proofs.NoneLost.{none_lost}
use Rattle.phone_table.proofs.laws.none_lost.Goals as goal

pub returns : goal.returns
returns c = none_lost
