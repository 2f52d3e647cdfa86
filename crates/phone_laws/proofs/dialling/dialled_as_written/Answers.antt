use Rattle.phone_laws.proofs.Dialled.{original_dialled}
use Rattle.phone_laws.proofs.dialling.dialled_as_written.Goals as goal

pub returns : goal.returns
returns c = original_dialled
