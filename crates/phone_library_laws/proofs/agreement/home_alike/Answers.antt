use Rattle.phone_library_laws.proofs.AlikeStripping.{home_alike}
use Rattle.phone_library_laws.proofs.agreement.home_alike.Goals as goal

pub returns : goal.returns
returns c db hint digits a b home =
    home_alike db hint digits home c.one_written.ensures c.plain_written.ensures.international c.plain_written.ensures.national a b
