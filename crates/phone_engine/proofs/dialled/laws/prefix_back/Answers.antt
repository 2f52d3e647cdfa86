use Rattle.phone_engine.proofs.DialledReads.{prefix_back}
use Rattle.phone_engine.proofs.dialled.laws.prefix_back.Goals as goal

pub returns : goal.returns
returns c db region n text bounded utf8 plain front e = prefix_back db region n bounded plain front text utf8 e
