use Rattle.std.proofs.Common.{◌≡◌, length}
use Rattle.phone_plans.specs.Records.{lasts}
use Rattle.phone_meta.proofs.iter.IterIterator.next.Given as goal

abbrev pub invariant-loop-first : goal.invariant-loop-first
invariant-loop-first l = lasts l.initial.self-inside.rest.now ≡ lasts l.self-inside.rest.now

abbrev pub decreases-loop-first : goal.decreases-loop-first
decreases-loop-first l = length l.self-inside.rest.now
