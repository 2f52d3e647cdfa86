use Rattle.std.proofs.Common.{arith}
use Rattle.phone_parts.proofs.Patterns.{contains-list_any}
use Rattle.phone_parts.proofs.helper.has_small_x.Goals as goal

pub returns : goal.returns
returns c = contains-list_any 120 c.args.text.now c.contains.result (omega arith) c.utf8.text c.contains.ensures.cases
