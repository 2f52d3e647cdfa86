use Rattle.phone_parts.proofs.SameParts.{parts_alike}
use Rattle.phone_parts.proofs.number.Number.is_same.Goals as goal

pub returns : goal.returns
returns c = parts_alike c.args.self.now c.args.other.now c.eq.result c.eq.ensures
