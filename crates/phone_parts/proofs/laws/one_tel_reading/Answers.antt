use Rattle.phone_parts.proofs.Tels.{tel_unique}
use Rattle.phone_parts.proofs.laws.one_tel_reading.Goals as goal

pub returns : goal.returns
returns c = tel_unique
