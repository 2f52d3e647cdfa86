use Rattle.phone_parts.proofs.PrintedInternational as printed
use Rattle.phone_parts.proofs.printed_international.international_parts.Goals as goal

pub returns : goal.returns
returns c = printed.international_parts
