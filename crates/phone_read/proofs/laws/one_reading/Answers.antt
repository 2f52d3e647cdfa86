use Rattle.phone_read.proofs.ReadingOnes.{reading_same}
use Rattle.phone_read.proofs.laws.one_reading.Goals as goal

pub returns : goal.returns
returns c = reading_same
