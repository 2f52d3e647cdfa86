use Rattle.phone_library_laws.proofs.AlikeStripping.{stripped_alike}
use Rattle.phone_library_laws.proofs.agreement.stripped_alike.Goals as goal

pub returns : goal.returns
returns c = stripped_alike
