use Rattle.phone_parts.proofs.PrintedTel.{rfc3966_parts}
use Rattle.phonenumber.proofs.BackLaws.{rfc3966_back}
use Rattle.phonenumber.proofs.laws.rfc3966_back.Goals as goal

pub returns : goal.returns
returns c db n text bounded plain idle e = rfc3966_back rfc3966_parts db n text bounded plain e idle
