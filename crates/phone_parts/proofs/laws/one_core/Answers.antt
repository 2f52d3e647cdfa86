use Rattle.phone_parts.proofs.Cores.{core_unique}
use Rattle.phone_parts.proofs.laws.one_core.Goals as goal

pub returns : goal.returns
returns c = core_unique
