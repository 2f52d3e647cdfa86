use Rattle.std.proofs.Common.{◌==◌, ◌||◌, ap, ◌∙◌}
use Rattle.phone_index.specs.ListedCodes.{is_in}
use Rattle.phone_index.proofs.Marks.{one_more, still_trie}
use Rattle.phone_index.proofs.trie.Trie.with.Goals as goal

pub invariant_of-result : goal.invariant_of-result
invariant_of-result c =
    still_trie c.self.inside.nodes.items c.place_of.new.nodes.items c.args.code c.in_ok-place.place c.index_mut.result.now c.in_ok-place.ensures c.index_mut.ensures.value c.self.invariant

pub returns : goal.returns
returns c = λ n.
    one_more c.self.inside.nodes.items c.place_of.new.nodes.items c.args.code c.in_ok-place.place c.index_mut.result.now c.in_ok-place.ensures c.index_mut.ensures.value n
    ∙ ap (λ codes. n == c.args.code || is_in n codes) c.self.view_is
