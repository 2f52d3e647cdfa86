use Rattle.std.proofs.Common.{◌≡◌, ◌∷◌, [], slice_index, arith, rules, subst, sym}
use Rattle.regex_hir.specs.Re.{look}
use Rattle.regex_hir.specs.declared.look.Look.TheVariants as looks
use Rattle.phone_automaton.specs.Rows.{GivesBefore}
use Rattle.phone_automaton.proofs.Reading.{gives_end}
use Rattle.phone_automaton.proofs.tree.row_of_look.Goals as goal

pub returns : goal.returns
returns c =
    let next = c.args.next in
    let row = c.row-follows in
    let x = slice_index row.result 10 in
    let is : c.args.kind ≡ looks.End = search rules in
    subst (λ l. GivesBefore c.args.rows.now (0 ∷ 0 ∷ 0 ∷ 0 ∷ 0 ∷ 0 ∷ 0 ∷ 0 ∷ 0 ∷ 0 ∷ x ∷ []) next
    (look l)) (sym is)
    (gives_end c.args.rows.now x next c.requires c.if-next-eq0.false
    (row.ensures.leads 10 (omega arith)) (row.ensures.cells 10 (omega arith)))
