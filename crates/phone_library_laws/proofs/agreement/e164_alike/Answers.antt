use Rattle.phone_library_laws.proofs.AlikeNumbers.{e164_alike}
use Rattle.phone_library_laws.proofs.agreement.e164_alike.Goals as goal

pub returns : goal.returns
returns c db hint n a b settled =
    e164_alike db n settled c.one_written.ensures c.plain_written.ensures.international c.plain_written.ensures.national hint a b
