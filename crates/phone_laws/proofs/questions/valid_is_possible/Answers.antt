use Rattle.phone_laws.proofs.ValidPossible.{valid-possible}
use Rattle.phone_laws.proofs.questions.valid_is_possible.Goals as goal

pub returns : goal.returns
returns c db n m valid home first = valid-possible db n m (c.valid_is_possible.ensures.allowed db n m valid home) first
