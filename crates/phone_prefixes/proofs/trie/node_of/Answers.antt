use Rattle.std.proofs.Common.{ap, ◌∙◌, reverse, take}
use Rattle.phone_prefixes.specs.Nodes.{walk}
use Rattle.phone_prefixes.proofs.Found.{digit_at}
use Rattle.phone_prefixes.proofs.Longest.{next_back}
use Rattle.phone_prefixes.proofs.Trees.{grown_trans}
use Rattle.phone_prefixes.proofs.trie.node_of.Goals as goal

pub child_of-requires-clause-digit : goal.child_of-requires-clause-digit
child_of-requires-clause-digit c = digit_at c.args.digits.now c.loop-digit.digit-index 0 c.requires.digits c.loop-digit-test.true

pub loop-digit-preserved : goal.loop-digit-preserved
loop-digit-preserved c =
    let digits = c.args.digits.now in
    let k = c.loop-digit.digit-index in
    record {
      grown = grown_trans _ _ _ c.loop-digit.invariant.grown c.in_ok-place.ensures.grown;
      leads = ap (walk c.child_of.new.nodes.items) (next_back c.child_of.new.nodes.items digits k c.loop-digit-test.true) ∙ c.in_ok-place.ensures.leads (reverse (take k digits)) c.loop-digit.invariant.leads;
    }
