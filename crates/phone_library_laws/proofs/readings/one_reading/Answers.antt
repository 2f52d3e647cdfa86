use Rattle.phone_library_laws.proofs.ReadOnce.{reading_same}
use Rattle.phone_library_laws.proofs.readings.one_reading.Goals as goal

pub returns : goal.returns
returns c = reading_same c.one_written.ensures
