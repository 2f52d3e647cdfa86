use Rattle.phone_engine.proofs.Swaps.{sameness_of-swap}
use Rattle.phone_engine.proofs.question_laws.swapped_sides.Goals as goal

pub returns : goal.returns
returns c = sameness_of-swap
