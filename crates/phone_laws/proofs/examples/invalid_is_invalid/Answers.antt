use Rattle.phone_further.proofs.Tried.{invalid_is_invalid}
use Rattle.phone_laws.proofs.examples.invalid_is_invalid.Goals as goal

pub returns : goal.returns
returns c = invalid_is_invalid
