use Rattle.std.proofs.Common.{[], ◌∷◌, ◌++◌, sym, ap, ◌∙◌}
use Rattle.phone_index.specs.Nodes.{child_of}
use Rattle.phone_index.proofs.Listed.{node_is}
use Rattle.phone_index.proofs.Trees.{made_place}
use Rattle.phone_index.proofs.trie.child_of.Goals as goal

pub returns : goal.returns
returns c =
    let old = c.args.nodes.now.items in
    let node = node_is old c.args.parent c.index.result.now c.requires.inside c.index.ensures in
    made_place old c.args.parent c.args.number c.requires.tree c.requires.inside c.requires.front c.push.new.self.items c.index_mut.result.now c.from-digit.result c.len-place.result
    (c.in_ok-push.ensures.items ∙ ap (λ n. old ++ n ∷ []) c.of.ensures) c.index_mut.ensures.value c.from-digit.ensures (c.len-place.ensures ∙ c.args.nodes.now.ok.0) c.requires.some c.ranges.number.fits
    (ap (λ n. child_of n c.from-digit.result) (sym node) ∙ c.if-found-ne0.false)
