use Rattle.phone_compact.proofs.is_compact.Goals as goal

pub returns-in-None-clause-other : goal.returns-in-None-clause-other
returns-in-None-clause-other c = λ _ is. c.in-None.ensures is.0 is.1
