use Rattle.phone_library_laws.proofs.ReadAgain.{read_again}
use Rattle.phone_library_laws.proofs.again.e164_again.Goals as goal

pub returns : goal.returns
returns c db hint n settled = read_again db n settled c.plain_written.ensures.international hint
