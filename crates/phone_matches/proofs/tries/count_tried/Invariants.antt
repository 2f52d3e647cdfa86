use Rattle.phone_matches.proofs.Firsts.{TriedSoFar}
use Rattle.phone_matches.proofs.tries.count_tried.Given as goal

abbrev pub invariant-loop-at : goal.invariant-loop-at
invariant-loop-at l = TriedSoFar l.tries l.pieces l.at l.left l.behind_front
