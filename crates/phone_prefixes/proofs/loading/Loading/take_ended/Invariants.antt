use Rattle.std.proofs.Common.{◌-◌, length}
use Rattle.phone_prefixes.specs.Loads.{IsSoFar}
use Rattle.phone_prefixes.proofs.loading.Loading.take_ended.Given as goal

abbrev pub invariant-loop-end : goal.invariant-loop-end
invariant-loop-end l = IsSoFar l.bytes l.at l.self.spans.items l.self.trie.nodes.items

abbrev pub decreases-loop-end : goal.decreases-loop-end
decreases-loop-end l = length l.bytes - l.at
