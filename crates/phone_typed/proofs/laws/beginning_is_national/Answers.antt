use Rattle.phone_typed.proofs.BegunNumbers.{begun_at_home}
use Rattle.phone_typed.proofs.laws.beginning_is_national.Goals as goal

pub returns : goal.returns
returns c = begun_at_home
