use Rattle.phone_parts.proofs.PrintedE164.{e164_parts}
use Rattle.phonenumber.proofs.BackLaws.{e164_back}
use Rattle.phonenumber.proofs.laws.e164_back.Goals as goal

pub returns : goal.returns
returns c db n text bounded plain idle some few free e = e164_back e164_parts db n text bounded plain some few free e idle
