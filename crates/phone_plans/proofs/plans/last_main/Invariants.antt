use Rattle.std.proofs.Common.{◌≡◌, length, reverse}
use Rattle.std.specs.List.{find}
use Rattle.phone_plans.specs.CodeLookUps.{is_main}
use Rattle.phone_plans.proofs.plans.last_main.Given as goal

abbrev pub invariant-loop-territory : goal.invariant-loop-territory
invariant-loop-territory l = find is_main (reverse l.all) ≡ find is_main (reverse l.rest)

abbrev pub decreases-loop-territory : goal.decreases-loop-territory
decreases-loop-territory l = length l.rest
