use Rattle.phone_parts.proofs.OneParts.{parts_same}
use Rattle.phone_parts.proofs.laws.one_set_of_parts.Goals as goal

pub returns : goal.returns
returns c = parts_same
