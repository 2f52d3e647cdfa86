use Rattle.phone_engine.proofs.Swaps.{exact_itself, national_itself}
use Rattle.phone_engine.proofs.question_laws.one_with_itself.Goals as goal

pub returns-clause-coded : goal.returns-clause-coded
returns-clause-coded c = exact_itself

pub returns-clause-dialled : goal.returns-clause-dialled
returns-clause-dialled c = national_itself
