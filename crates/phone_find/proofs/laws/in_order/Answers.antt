use Rattle.phone_find.proofs.Ones.{ordered}
use Rattle.phone_find.proofs.laws.in_order.Goals as goal
use Rattle.phone_find.specs.Numbers.{IsNumberAt}

pub returns : goal.returns
returns c rules db hint l text all a = ordered (IsNumberAt rules db hint l text) text 0 all a
