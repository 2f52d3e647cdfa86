use Rattle.phone_engine.proofs.possibilities.kind_descriptors.Goals as goal

pub returns : goal.returns
returns c = c.descriptors_of.ensures
