use Rattle.phone_library_laws.proofs.AlikeStripping.{own_alike}
use Rattle.phone_library_laws.proofs.agreement.own_alike.Goals as goal

pub returns : goal.returns
returns c db hint digits a b own =
    own_alike db hint digits own c.one_written.ensures c.plain_written.ensures.international c.plain_written.ensures.national a b
