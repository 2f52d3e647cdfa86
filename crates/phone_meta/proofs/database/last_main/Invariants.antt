use Rattle.std.proofs.Common.{◌≡◌, length, reverse}
use Rattle.std.specs.List.{find}
use Rattle.phone_plans.specs.CodeLookUps.{is_main_of}
use Rattle.phone_meta.proofs.database.last_main.Given as goal

abbrev pub invariant-loop-last : goal.invariant-loop-last
invariant-loop-last l = find (is_main_of l.code) (reverse l.all) ≡ find (is_main_of l.code) (reverse l.rest)

abbrev pub decreases-loop-last : goal.decreases-loop-last
decreases-loop-last l = length l.rest
