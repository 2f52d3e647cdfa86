use Rattle.std.proofs.Common.{◌+◌, ◌≤◌}
use Rattle.phone_index.proofs.Walks.{IsWalk}
use Rattle.phone_index.proofs.trie.Trie.shortest_in.Given as goal

abbrev pub invariant-loop-k : goal.invariant-loop-k
invariant-loop-k l = record { walk : IsWalk l.self-inside.nodes.items l.bytes l.k l.place; bound : l.steps ≤ l.initial.steps + l.k }
