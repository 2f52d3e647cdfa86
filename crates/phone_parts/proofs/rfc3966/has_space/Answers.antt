use Rattle.std.proofs.Common.{arith}
use Rattle.phone_parts.proofs.Patterns.{contains-list_any}
use Rattle.phone_parts.proofs.rfc3966.has_space.Goals as goal

pub returns : goal.returns
returns c = contains-list_any 32 c.args.text.now c.contains.result (omega arith) c.utf8.text c.contains.ensures.cases
