use Rattle.std.proofs.Common.{◌≤◌}
use Rattle.replay_database.proofs.compact.malformed_fronts.Given as goal

abbrev pub invariant-loop-end : goal.invariant-loop-end
invariant-loop-end l = l.count ≤ l.end
