use Rattle.std.proofs.Common.{refl, ap, ◌∙◌, get_or}
use Rattle.phone_prefixes.specs.Nodes.{some_mark}
use Rattle.phone_prefixes.proofs.Marked.{mark_read, set_marked, set_tree}
use Rattle.phone_prefixes.proofs.trie.set_mark.Goals as goal

pub returns-clause-tree : goal.returns-clause-tree
returns-clause-tree c = set_tree c.args.nodes.now.items c.args.place c.args.digit c.from-column.result c.args.mark c.in_ok-number.number c.index_mut.result.now c.requires.tree c.requires.inside c.requires.digit c.index_mut.ensures.value c.from-column.ensures c.in_ok-number.ensures

pub returns-clause-free : goal.returns-clause-free
returns-clause-free c = λ _.
    mark_read c.args.nodes.now.items c.args.place c.args.digit c.from-column.result (get_or c.index.result.now.marks c.from-column.result 0) c.index.result.now c.requires.inside c.requires.digit c.index.ensures c.from-column.ensures refl
    ∙ ap some_mark c.if-index-column-ne0.false

pub returns-clause-marked : goal.returns-clause-marked
returns-clause-marked c = λ _ front leads. set_marked c.args.nodes.now.items c.args.place c.args.digit c.from-column.result c.args.mark c.in_ok-number.number c.index_mut.result.now front c.requires.tree c.requires.inside c.requires.digit c.index_mut.ensures.value c.from-column.ensures c.in_ok-number.ensures leads
