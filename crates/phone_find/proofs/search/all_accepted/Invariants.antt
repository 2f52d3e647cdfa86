use Rattle.std.proofs.Common.{length, ◌-◌}
use Rattle.phone_find.proofs.Searches.{FoundSoFar}
use Rattle.phone_find.proofs.search.all_accepted.Given as goal

abbrev pub invariant-loop-from : goal.invariant-loop-from
invariant-loop-from g l = FoundSoFar (g.J.Judge.accepts l.judge l.text) l.text l.all.items l.from

abbrev pub decreases-loop-from : goal.decreases-loop-from
decreases-loop-from g l = length l.text - l.from
