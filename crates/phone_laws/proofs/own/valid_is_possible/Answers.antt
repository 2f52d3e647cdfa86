use Rattle.phone_laws.proofs.OwnValidPossible.{valid-possible}
use Rattle.phone_laws.proofs.own.valid_is_possible.Goals as goal

pub returns : goal.returns
returns c db n m valid own home = valid-possible db n m valid own (c.valid_is_possible.ensures.allowed db n m valid home)
