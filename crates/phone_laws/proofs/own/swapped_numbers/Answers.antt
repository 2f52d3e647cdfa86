use Rattle.phone_laws.proofs.OwnSwaps.{match_numbers-swap}
use Rattle.phone_laws.proofs.own.swapped_numbers.Goals as goal

pub returns : goal.returns
returns c = match_numbers-swap
