use Rattle.std.proofs.Common.{◌≡◌, ◌+◌, ◌≤◌, length, reverse, take, Some}
use Rattle.phone_prefixes.specs.Nodes.{mark_of, walk}
use Rattle.phone_prefixes.proofs.Longest.{IsBest}
use Rattle.phone_prefixes.proofs.trie.Trie.longest.Given as goal

abbrev pub invariant-loop-k : goal.invariant-loop-k
invariant-loop-k l = record {
  enough : l.k ≤ length l.text;
  leads : walk l.self.nodes.items (reverse (take l.k l.text)) ≡ Some l.place;
  best : IsBest (mark_of l.self.nodes.items) l.text l.k l.longest;
  bound : l.steps ≤ l.initial.steps + l.k;
}
