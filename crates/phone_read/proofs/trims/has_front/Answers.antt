use Rattle.std.proofs.Common.{rules}
use Rattle.phone_parts.proofs.Prefixes.{is_front-decided}
use Rattle.phone_read.proofs.trims.has_front.Goals as goal

pub returns : goal.returns
returns c = is_front-decided c.args.front.now c.args.text.now c.starts_with.result (search rules)
