use Rattle.phone_library_laws.proofs.ReadOnce.{reading_some}
use Rattle.phone_library_laws.proofs.readings.some_reading.Goals as goal

pub returns : goal.returns
returns c db hint text = let r = c.some_written.ensures text in reading_some db hint text r.0 r.1
