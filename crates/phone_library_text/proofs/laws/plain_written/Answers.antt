use Rattle.phone_library_text.proofs.PlainWritten.{international_written, national_written}
use Rattle.phone_library_text.proofs.laws.plain_written.Goals as goal

pub returns : goal.returns
returns c = record { international = international_written; national = national_written }
