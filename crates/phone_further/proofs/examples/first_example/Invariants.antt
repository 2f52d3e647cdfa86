use Rattle.std.proofs.Common.{◌≡◌, drop}
use Rattle.phone_further.specs.Examples.{first_example}
use Rattle.phone_further.proofs.examples.first_example.Given as goal

abbrev pub invariant-loop-kind : goal.invariant-loop-kind
invariant-loop-kind l = first_example l.m l.kinds ≡ first_example l.m (drop l.kind-index l.kinds)
