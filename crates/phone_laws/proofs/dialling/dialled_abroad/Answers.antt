use Rattle.phone_laws.proofs.Dialled.{mobile_abroad}
use Rattle.phone_laws.proofs.dialling.dialled_abroad.Goals as goal

pub returns : goal.returns
returns c = mobile_abroad
