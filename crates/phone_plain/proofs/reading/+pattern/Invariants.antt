use Rattle.std.proofs.Common.{◌+◌, ◌*◌, length}
use Rattle.phone_plain.proofs.Branching.{AreParts, AreBranches}
use Rattle.phone_plain.proofs.reading.+pattern.Given as goal

abbrev pub decreases-read_choice : goal.decreases-read_choice
decreases-read_choice l = 6 * l.depth + 5

abbrev pub decreases-read_other : goal.decreases-read_other
decreases-read_other l = 6 * l.depth + 4

abbrev pub decreases-read_sequence : goal.decreases-read_sequence
decreases-read_sequence l = 6 * l.depth + 3

abbrev pub decreases-read_part : goal.decreases-read_part
decreases-read_part l = 6 * l.depth + 2

abbrev pub decreases-unit : goal.decreases-unit
decreases-unit l = 6 * l.depth + 1

abbrev pub decreases-group : goal.decreases-group
decreases-group l = 6 * l.depth

abbrev pub invariant-read_sequence-parts : goal.invariant-read_sequence-parts
invariant-read_sequence-parts l = AreParts l.from l.parts.items l.to

abbrev pub decreases-read_sequence-parts : goal.decreases-read_sequence-parts
decreases-read_sequence-parts l = length l.to.rest.now

abbrev pub invariant-read_choice-branches : goal.invariant-read_choice-branches
invariant-read_choice-branches l = AreBranches l.from l.branches.items l.to

abbrev pub decreases-read_choice-branches : goal.decreases-read_choice-branches
decreases-read_choice-branches l = length l.to.rest.now
