use Rattle.phone_laws.proofs.Swaps.{bare_itself, exact_itself}
use Rattle.phone_laws.proofs.questions.one_with_itself.Goals as goal

pub returns-clause-coded : goal.returns-clause-coded
returns-clause-coded c = exact_itself

pub returns-clause-bare : goal.returns-clause-bare
returns-clause-bare c = bare_itself
