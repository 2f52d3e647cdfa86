use Rattle.phone_matches.proofs.Orders.{all_ordered}
use Rattle.phone_matches.specs.Numbers.{IsNumberBy}
use Rattle.phone_matches.proofs.laws.in_order.Goals as goal

pub returns : goal.returns
returns c db alternates hint l tries text all found = all_ordered (IsNumberBy db alternates hint l) text tries all found
