use Rattle.phone_engine.proofs.Longer.{too_short_goes_on}
use Rattle.phone_engine.proofs.question_laws.too_short_goes_on.Goals as goal

pub returns : goal.returns
returns c = too_short_goes_on
