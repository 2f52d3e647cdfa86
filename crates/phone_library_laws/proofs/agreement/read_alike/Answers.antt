use Rattle.phone_library_laws.proofs.AlikeReadings.{readings_alike}
use Rattle.phone_library_laws.proofs.agreement.read_alike.Goals as goal

pub returns : goal.returns
returns c = readings_alike c.one_written.ensures c.plain_written.ensures.international c.plain_written.ensures.national
