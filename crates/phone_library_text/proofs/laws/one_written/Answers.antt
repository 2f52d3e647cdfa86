use Rattle.phone_library_text.proofs.WrittenOnes.{written_same}
use Rattle.phone_library_text.proofs.laws.one_written.Goals as goal

pub returns : goal.returns
returns c = written_same
