use Rattle.std.proofs.Common.{◌≡◌, reverse, take, Some}
use Rattle.phone_prefixes.specs.Nodes.{walk, IsGrown}
use Rattle.phone_prefixes.proofs.trie.node_of.Given as goal

abbrev pub invariant-loop-digit : goal.invariant-loop-digit
invariant-loop-digit l = record {
  grown : IsGrown l.initial.nodes.items l.nodes.items;
  leads : walk l.nodes.items (reverse (take l.digit-index l.digits)) ≡ Some l.place;
}
