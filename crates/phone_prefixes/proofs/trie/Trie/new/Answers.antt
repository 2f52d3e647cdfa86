use Rattle.std.proofs.Common.{arith}
use Rattle.std.proofs.lemmas.Grind.{common_steps}
use Rattle.phone_prefixes.proofs.Trees.{is_root, root_marks}
use Rattle.phone_prefixes.proofs.trie.Trie.new.Goals as goal

pub returns-clause-tree : goal.returns-clause-tree
returns-clause-tree c = is_root c.push.new.self.items (grind (arith, common_steps, c.in_ok-push.ensures.items, c.bare_node.ensures))

pub returns-clause-none : goal.returns-clause-none
returns-clause-none c = root_marks c.push.new.self.items (grind (arith, common_steps, c.in_ok-push.ensures.items, c.bare_node.ensures))
