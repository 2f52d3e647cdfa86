use Rattle.phone_typed.proofs.ShownFronts.{IsPassed}
use Rattle.phone_typed.proofs.keys.end_of_shown.Given as goal

abbrev pub invariant-loop-at : goal.invariant-loop-at
invariant-loop-at l = IsPassed l.keys l.text l.n l.at
