use Rattle.phone_parts.proofs.AnnouncedParts.{announced_parts}
use Rattle.phone_parts.proofs.PrintedInternational.{international_parts}
use Rattle.phonenumber.proofs.BackLaws.{international_back}
use Rattle.phonenumber.proofs.BackPrefixes.{announced_safely}
use Rattle.phonenumber.proofs.laws.international_back.Goals as goal

pub returns : goal.returns
returns c db n text bounded utf8 plain idle some few free benign e =
    international_back international_parts announced_parts db n text bounded utf8 plain some few
    free (announced_safely plain.territory n benign) e idle
