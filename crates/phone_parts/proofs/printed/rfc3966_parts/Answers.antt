use Rattle.phone_parts.proofs.PrintedTel.{rfc3966_parts}
use Rattle.phone_parts.proofs.printed.rfc3966_parts.Goals as goal

pub returns : goal.returns
returns c = rfc3966_parts
