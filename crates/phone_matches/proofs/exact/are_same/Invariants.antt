use Rattle.std.proofs.Common.{◌≡◌, drop}
use Rattle.phone_matches.specs.Exact.{are_same}
use Rattle.phone_matches.specs.Runs.{told}
use Rattle.phone_matches.proofs.exact.are_same.Given as goal

abbrev pub invariant-loop-at : goal.invariant-loop-at
invariant-loop-at l = are_same (told l.texts) (told l.others) ≡ are_same (told (drop l.at l.texts)) (told (drop l.at l.others))
