use Rattle.phone_doubts.proofs.Reasons.{other_so}
use Rattle.phone_doubts.proofs.regions.is_other.Goals as goal

pub returns : goal.returns
returns c = other_so c.args.region c.args.hint c.has_name_of.result c.has_name_of.ensures
