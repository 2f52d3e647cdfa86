use Rattle.std.proofs.Common.{◌++◌, ◌∷◌, [], ap, sym, ◌∙◌, get_or}
use Rattle.phone_prefixes.proofs.Trees.{child_made, node_is}
use Rattle.phone_prefixes.proofs.trie.child_of.Goals as goal

pub returns-clause-grown : goal.returns-clause-grown
returns-clause-grown c =
    let old = c.args.nodes.now.items in
    (child_made old c.push.new.self.items c.args.place c.args.digit c.from-column.result c.len-child.result c.in_ok-number.number c.index_mut.result.now
    c.requires.tree c.requires.inside c.requires.digit (c.in_ok-push.ensures.items ∙ ap (λ n. old ++ n ∷ []) c.bare_node.ensures) c.index_mut.ensures.value c.from-column.ensures
    (c.len-child.ensures ∙ c.args.nodes.now.ok.0) c.in_ok-number.ensures
    (ap (λ n. get_or n.children c.from-column.result 0) (sym (node_is old c.args.place c.index.result.now c.requires.inside c.index.ensures)) ∙ c.if-found-ne0.false)).grown

pub returns-clause-leads : goal.returns-clause-leads
returns-clause-leads c =
    let old = c.args.nodes.now.items in
    (child_made old c.push.new.self.items c.args.place c.args.digit c.from-column.result c.len-child.result c.in_ok-number.number c.index_mut.result.now
    c.requires.tree c.requires.inside c.requires.digit (c.in_ok-push.ensures.items ∙ ap (λ n. old ++ n ∷ []) c.bare_node.ensures) c.index_mut.ensures.value c.from-column.ensures
    (c.len-child.ensures ∙ c.args.nodes.now.ok.0) c.in_ok-number.ensures
    (ap (λ n. get_or n.children c.from-column.result 0) (sym (node_is old c.args.place c.index.result.now c.requires.inside c.index.ensures)) ∙ c.if-found-ne0.false)).leads
