use Rattle.std.proofs.Common.{sym, refl, arith}
use Rattle.phone_prefixes.specs.Nodes.{mark_of}
use Rattle.phone_prefixes.proofs.Longest.{best_all, step_best, step_end, step_on, stop_best, IsBest}
use Rattle.phone_prefixes.proofs.trie.Trie.longest.Goals as goal
use Rattle.phone_prefixes.proofs.trie.Trie.longest.Goals.{then-k-text-via-then-k-text, then-k-text-via-else-k-text+then-not-is_ascii_digit}

pub returns-then-k-text-clause-longest : goal.returns-then-k-text-clause-longest
returns-then-k-text-clause-longest c =
    let nodes = c.args.self.now.nodes.items in
    let text = c.args.text.now in
    elim c.then-k-text.branch [
      | then-k-text-via-then-k-text w ↦ best_all (mark_of nodes) text c.loop-k.k 15 c.loop-k.longest (omega arith) w.if-k-text.true c.loop-k.invariant.best
      | then-k-text-via-else-k-text+then-not-is_ascii_digit w ↦ stop_best nodes text c.loop-k.k c.loop-k.place c.loop-k.longest c.loop-k-test.true w.if-k-text.false c.loop-k.invariant.leads (sym w.if-not-is_ascii_digit.ensures.value) c.loop-k.invariant.best
    ]

pub returns-then-place-eq0-clause-longest : goal.returns-then-place-eq0-clause-longest
returns-then-place-eq0-clause-longest c =
    let nodes = c.args.self.now.nodes.items in
    let text = c.args.text.now in
    let best : IsBest (mark_of nodes) text 15 _ = step_end nodes text c.loop-k.k c.loop-k.place c.from-digit.result c.index-node.result.now c.if-k-text.false c.loop-k.invariant.leads c.requires c.index-node.ensures (sym c.if-not-is_ascii_digit.ensures.value) c.from-digit.ensures
    c.loop-k.longest c.loop-k-test.true c.if-place-eq0.true c.loop-k.invariant.best in
    rw c.later-longest.ensures best

pub loop-k-preserved : goal.loop-k-preserved
loop-k-preserved c =
    let nodes = c.args.self.now.nodes.items in
    let text = c.args.text.now in
    record {
      enough = omega arith;
      leads = step_on nodes text c.loop-k.k c.loop-k.place c.from-digit.result c.index-node.result.now c.if-k-text.false c.loop-k.invariant.leads c.requires c.index-node.ensures (sym c.if-not-is_ascii_digit.ensures.value) c.from-digit.ensures _ refl c.if-place-eq0.false;
      best = rw c.later-longest.ensures (step_best nodes text c.loop-k.k c.loop-k.place c.from-digit.result c.index-node.result.now c.if-k-text.false c.loop-k.invariant.leads c.requires c.index-node.ensures (sym c.if-not-is_ascii_digit.ensures.value) c.from-digit.ensures c.loop-k.longest c.loop-k.invariant.best);
      bound = omega arith;
    }
