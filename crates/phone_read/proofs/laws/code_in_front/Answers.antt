use Rattle.phone_read.proofs.ListedFronts.{shortest-front, shortest-listed}
use Rattle.phone_read.proofs.laws.code_in_front.Goals as goal

pub returns : goal.returns
returns c = record { front = shortest-front; listed = shortest-listed }
