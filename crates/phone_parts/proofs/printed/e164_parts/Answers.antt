use Rattle.phone_parts.proofs.PrintedE164.{e164_parts}
use Rattle.phone_parts.proofs.printed.e164_parts.Goals as goal

pub returns : goal.returns
returns c = e164_parts
