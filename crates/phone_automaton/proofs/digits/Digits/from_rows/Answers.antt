use Rattle.std.proofs.Common.{◌≡◌, ◌++◌, length, map, rules, arith, subst, sym, ap, ◌∙◌}
use Rattle.phone_automaton.specs.Digits.{HasRows, end_by}
use Rattle.phone_automaton.specs.Rows.{moved, none}
use Rattle.phone_automaton.proofs.Moving.{begins, map_length, table, table_rows, written_back}
use Rattle.phone_automaton.proofs.digits.Digits.from_rows.Goals as goal

pub invariant_of-result : goal.invariant_of-result
invariant_of-result c =
    let rows = c.args.rows.now in
    let first = c.args.first.now in
    let eleven : length first ≡ 11 = search rules in
    let items = c.in_ok-cells.cells.items in
    let all : c.in_ok-cells.cells.len ≡ length items = omega (arith, c.in_ok-cells.cells.ok) in
    let put : items ≡ none ++ (first ++ rows) = c.in_ok-cells.ensures
    ∙ ap (λ l. none ++ (first ++ l)) c.cells.ensures.is in
    let now : c.move_all.new.cells ≡ table rows first eleven = c.move_all.ensures
    ∙ ap (map moved) (c.as_mut_slice.ensures.value ∙ put) in
    let whole : length c.move_all.new.cells ≡ length items = ap length c.move_all.ensures
    ∙ map_length c.as_mut_slice.result.now ∙ ap length c.as_mut_slice.ensures.value in
    subst HasRows (sym (written_back c.move_all.new.cells items c.in_ok-cells.cells.len all whole
    ∙ now)) (table_rows rows first eleven c.cells.ensures.known c.requires)

pub returns : goal.returns
returns c hay digits =
    let rows = c.args.rows.now in
    let first = c.args.first.now in
    let eleven : length first ≡ 11 = search rules in
    let items = c.in_ok-cells.cells.items in
    let all : c.in_ok-cells.cells.len ≡ length items = omega (arith, c.in_ok-cells.cells.ok) in
    let put : items ≡ none ++ (first ++ rows) = c.in_ok-cells.ensures
    ∙ ap (λ l. none ++ (first ++ l)) c.cells.ensures.is in
    let now : c.move_all.new.cells ≡ table rows first eleven = c.move_all.ensures
    ∙ ap (map moved) (c.as_mut_slice.ensures.value ∙ put) in
    let whole : length c.move_all.new.cells ≡ length items = ap length c.move_all.ensures
    ∙ map_length c.as_mut_slice.result.now ∙ ap length c.as_mut_slice.ensures.value in
    ap (λ l. end_by l 11 0 hay) (written_back c.move_all.new.cells items c.in_ok-cells.cells.len all
    whole ∙ now)
    ∙ begins rows first eleven hay digits
