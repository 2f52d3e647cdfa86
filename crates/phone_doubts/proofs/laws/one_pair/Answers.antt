use Rattle.phone_doubts.proofs.PairLaws.{pair_same}
use Rattle.phone_doubts.proofs.Parting.{two_same}
use Rattle.phone_doubts.proofs.laws.one_pair.Goals as goal

pub returns-clause-parts : goal.returns-clause-parts
returns-clause-parts c = two_same

pub returns-clause-numbers : goal.returns-clause-numbers
returns-clause-numbers c = pair_same
