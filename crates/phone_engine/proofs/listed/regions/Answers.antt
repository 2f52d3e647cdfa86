use Rattle.phone_engine.proofs.listed.regions.Goals as goal

pub returns : goal.returns
returns c = c.listed_among.ensures
