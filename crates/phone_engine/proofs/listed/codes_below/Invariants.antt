use Rattle.std.proofs.Common.{◌≡◌}
use Rattle.phone_engine.specs.Listed.{codes_below}
use Rattle.phone_engine.proofs.listed.codes_below.Given as goal

abbrev pub invariant-loop-n : goal.invariant-loop-n
invariant-loop-n l = l.found.items ≡ codes_below l.database l.n
