use Rattle.phone_typed.proofs.BegunNumbers.{begun_abroad}
use Rattle.phone_typed.proofs.laws.beginning_is_international.Goals as goal

pub returns : goal.returns
returns c = begun_abroad
