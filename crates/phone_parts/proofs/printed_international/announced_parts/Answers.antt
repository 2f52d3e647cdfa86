use Rattle.phone_parts.proofs.AnnouncedParts as announced
use Rattle.phone_parts.proofs.printed_international.announced_parts.Goals as goal

pub returns : goal.returns
returns c = announced.announced_parts
