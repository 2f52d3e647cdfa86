use Rattle.phone_library_text.proofs.WrittenSome.{some_written}
use Rattle.phone_library_text.proofs.laws.some_written.Goals as goal

pub returns : goal.returns
returns c = some_written
