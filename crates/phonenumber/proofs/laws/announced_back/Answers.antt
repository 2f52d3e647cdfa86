use Rattle.std.proofs.Common.{inr}
use Rattle.phone_parts.proofs.AnnouncedParts.{announced_parts}
use Rattle.phone_parts.proofs.PrintedInternational.{international_parts}
use Rattle.phonenumber.proofs.BackLaws.{international_back}
use Rattle.phonenumber.proofs.laws.announced_back.Goals as goal

pub returns : goal.returns
returns c db n text bounded utf8 plain idle some few free by_word e =
    international_back international_parts announced_parts db n text bounded utf8 plain some few
    free (inr by_word) e idle
