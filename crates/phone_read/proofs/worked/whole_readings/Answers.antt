use Rattle.phone_read.proofs.ReadingRows.{by_hint, by_prefix}
use Rattle.phone_read.proofs.worked.whole_readings.Goals as goal

pub returns : goal.returns
returns c = record { by_hint = by_hint; by_prefix = by_prefix }
