use Rattle.std.proofs.Common.{◌-◌, ◌+◌, ◌≤◌, length}
use Rattle.phone_find.proofs.Searches.{EndsUpTo}
use Rattle.phone_find.proofs.search.longest_at.Given as goal

abbrev pub invariant-loop-end : goal.invariant-loop-end
invariant-loop-end g l =
    (l.end ≤ length l.text) × (l.end ≤ l.start + 250) × EndsUpTo (g.J.Judge.accepts l.judge l.text)
    l.text l.start l.end

abbrev pub decreases-loop-end : goal.decreases-loop-end
decreases-loop-end g l = l.end - l.start
