use Rattle.std.proofs.Common.{◌≡◌, ap₂, ◌∙◌, arith, get_or, None, sym, ◌<◌}
use Rattle.phone_index.specs.ListedCodes.{shortest}
use Rattle.phone_index.specs.Nodes.{child_of, listed_by}
use Rattle.phone_index.proofs.Listed.{node_is}
use Rattle.phone_index.proofs.Walks.{ends_with_codes, ends_with_digits, ends_with_text, finds, goes_on, IsStep}
use Rattle.phone_index.proofs.trie.Trie.shortest_in.Goals as goal
use Rattle.phone_index.proofs.trie.Trie.shortest_in.Goals.{After-from, then-k-bytes-via-then-k-bytes, then-k-bytes-via-else-k-bytes+then-not-is_ascii_digit}

-- the move to the child of the place
move : (c : After-from) → IsStep c.self.inside.nodes.items c.as_bytes-bytes.result.now c.loop-k.k c.loop-k.place (get_or c.index.result.now.children c.from.result 0)
move c = record {
  inside = c.if-k-bytes.false;
  digit = sym c.if-not-is_ascii_digit.ensures.value;
  leads = ap₂ child_of (node_is _ _ _ c.loop-k.invariant.walk.inside c.index.ensures) c.from.ensures;
}

pub returns-then-k-bytes-clause-code : goal.returns-then-k-bytes-clause-code
returns-then-k-bytes-clause-code c =
    let walk = c.loop-k.invariant.walk in
    let ended : shortest (listed_by c.self.inside.nodes.items) c.as_bytes-bytes.result.now ≡ None = elim c.then-k-bytes.branch [
      | then-k-bytes-via-then-k-bytes w ↦ ends_with_text _ _ _ _ walk w.if-k-bytes.true
      | then-k-bytes-via-else-k-bytes+then-not-is_ascii_digit w ↦ ends_with_digits _ _ _ _ walk w.if-k-bytes.false (sym w.if-not-is_ascii_digit.ensures.value)
    ] in
    sym ended ∙ ap₂ shortest c.self.view_is c.as_bytes-bytes.ensures.value

pub returns-then-place-eq0-clause-code : goal.returns-then-place-eq0-clause-code
returns-then-place-eq0-clause-code c =
    sym (ends_with_codes _ _ _ _ c.loop-k.invariant.walk c.self.invariant.tree _ (move (goal.at.returns-then-place-eq0-clause-code c).After-from) c.if-place-eq0.true)
    ∙ ap₂ shortest c.self.view_is c.as_bytes-bytes.ensures.value

pub returns-in-Some-clause-code : goal.returns-in-Some-clause-code
returns-in-Some-clause-code c =
    let place = get_or c.index.result.now.children c.from.result 0 in
    let on : 0 < place = omega (arith, c.if-place-eq0.false) in
    sym (finds _ _ _ _ c.loop-k.invariant.walk c.self.invariant.tree place (move (goal.at.returns-in-Some-clause-code c).After-from) on c.loop-k-test.true _ c.index-in-loop-k.ensures _ c.in-Some.ensures)
    ∙ ap₂ shortest c.self.view_is c.as_bytes-bytes.ensures.value

pub loop-k-preserved : goal.loop-k-preserved
loop-k-preserved c =
    let place = get_or c.index.result.now.children c.from.result 0 in
    let on : 0 < place = omega (arith, c.if-place-eq0.false) in
    record {
      walk = goes_on _ _ _ _ c.loop-k.invariant.walk c.self.invariant.tree place (move (goal.at.loop-k-preserved c).After-from) on _ c.index-in-loop-k.ensures c.in_default.ensures;
      bound = omega arith;
    }
