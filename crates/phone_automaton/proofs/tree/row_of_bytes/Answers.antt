use Rattle.std.proofs.Common.{◌≡◌, ◌<◌, ◌≤◌, ◌+◌, ◌-◌, length, [], subst, sym, arith, rules}
use Rattle.regex_hir.specs.Re.{literal}
use Rattle.phone_automaton.specs.Rows.{GivesBefore}
use Rattle.phone_automaton.proofs.Joining.{Grows-one, Grows-same, Grows-twice, IsPlace-grows}
use Rattle.phone_automaton.proofs.Reading.{gives_byte, gives_last_byte, gives_nothing, nothing_left}
use Rattle.phone_automaton.proofs.tree.row_of_bytes.Goals as goal

pub returns-then-is_empty-clause-gives : goal.returns-then-is_empty-clause-gives
returns-then-is_empty-clause-gives c =
    let zero : length c.args.bytes.now ≡ 0 = search rules in
    let none : c.args.bytes.now ≡ [] = nothing_left c.args.bytes.now 0 (omega (arith, zero)) in
    let row = c.row.ensures in
    subst (λ bs. GivesBefore c.args.rows.now c.row.result c.args.next (literal bs)) (sym none)
    (gives_nothing c.args.rows.now c.row.result c.args.next row.known row.cells row.leads)

pub loop-i-init : goal.loop-i-init
loop-i-init c =
    let to = c.cell_to.ensures in
    let some : 0 < length c.args.bytes.now = search rules in
    let last : length c.args.bytes.now - 1 + 1 ≡ length c.args.bytes.now = omega (arith, some) in
    record {
      grows = Grows-same c.args.rows.now;
      next = c.requires;
      gives = gives_last_byte c.args.rows.now c.digit_cells-row.result c.args.bytes.now c.args.next
          c.cell_to.result (length c.args.bytes.now - 1)
          c.requires to.place to.ends last c.digit_cells-row.ensures;
    }

pub loop-i-preserved : goal.loop-i-preserved
loop-i-preserved c =
    let i = c.loop-i.invariant in
    let old = c.loop-i.rows in
    let new = c.push.new.self in
    let push = c.in_ok-place.ensures in
    let to = c.cell_to-in-loop-i.ensures in
    let inside : c.loop-i.i ≤ length c.args.bytes.now = omega (arith, c.loop-i.auto.i) in
    let further = Grows-one old new c.loop-i.row push.grows in record {
      grows = Grows-twice c.args.rows.now old new i.grows further;
      next = IsPlace-grows old new c.args.next further i.next;
      gives = gives_byte old c.loop-i.row new c.digit_cells-row-in-loop-i.result c.args.bytes.now
          c.in_ok-place.place c.args.next c.cell_to-in-loop-i.result c.loop-i.i
          push.grows push.place push.known i.next push.inside to.place to.ends c.loop-i-test.true
          inside c.digit_cells-row-in-loop-i.ensures i.gives;
    }
