use Rattle.phone_engine.proofs.OneReading.{reading_same}
use Rattle.phone_engine.proofs.laws.one_reading.Goals as goal

pub returns : goal.returns
returns c = reading_same
