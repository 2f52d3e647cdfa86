use Rattle.phone_matches.proofs.Seams.{front_nothing}
use Rattle.phone_matches.proofs.tries.is_front.Goals as goal

pub returns-in-None : goal.returns-in-None
returns-in-None c = front_nothing _ c.in-None.ensures.cut
