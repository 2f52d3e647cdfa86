use Rattle.std.proofs.Common.{length}
use Rattle.phone_plain.specs.Classes.{AreMembers}
use Rattle.phone_plain.proofs.class.members.Given as goal

abbrev pub invariant-loop-rest : goal.invariant-loop-rest
invariant-loop-rest l = AreMembers l.text l.ranges.items l.rest

abbrev pub decreases-loop-rest : goal.decreases-loop-rest
decreases-loop-rest l = length l.rest
