use Rattle.std.proofs.Common.{ap, ◌∙◌}
use Rattle.std.specs.List.{list_all}
use Rattle.phone_index.specs.ListedCodes.{is_prefix_free}
use Rattle.phone_index.specs.Nodes.{is_end}
use Rattle.phone_index.proofs.Ends.{ends-prefix_free}
use Rattle.phone_index.proofs.trie.Trie.is_prefix_free.Goals as goal

pub returns : goal.returns
returns c =
    c.are_ends.ensures ∙ ap (list_all is_end) c.deref.ensures.value ∙ ends-prefix_free c.self.inside.nodes.items c.self.invariant ∙ ap is_prefix_free c.self.view_is
