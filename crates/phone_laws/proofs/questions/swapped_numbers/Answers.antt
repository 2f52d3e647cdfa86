use Rattle.phone_laws.proofs.Swaps.{match_of-swap}
use Rattle.phone_laws.proofs.questions.swapped_numbers.Goals as goal

pub returns : goal.returns
returns c = match_of-swap
