use Rattle.phone_engine.proofs.DialledReads.{plus_back}
use Rattle.phone_engine.proofs.dialled.laws.plus_back.Goals as goal

pub returns : goal.returns
returns c db region n text bounded utf8 plain front e = plus_back db region n bounded plain front text utf8 e
