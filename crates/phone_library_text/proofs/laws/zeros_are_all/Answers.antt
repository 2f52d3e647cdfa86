use Rattle.phone_library_text.proofs.Digits.{nd_exactly}
use Rattle.phone_library_text.proofs.laws.zeros_are_all.Goals as goal

pub returns : goal.returns
returns c = nd_exactly
