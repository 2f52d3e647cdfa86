use Rattle.std.proofs.Common.{arith, refl, subst, sym}
use Rattle.phone_automaton.proofs.Parting.{whole_told}
use Rattle.phone_automaton.specs.Parts.{AreFrontCells}
use Rattle.regex_syntax.specs.Same.{sequence}
use Rattle.phone_automaton.proofs.parts.front_cells_of_all.Goals as goal

pub returns : goal.returns
returns c =
    subst (AreFrontCells (sequence c.args.subs.now)) (sym c.in_ok-extend_from_slice.ensures.items)
    (whole_told c.in-Some.cells.items c.args.subs.now c.index-subs-count.result (omega (arith, c.if-count-eq0.false)) c.index-subs-count.is
    (rw c.in-Some.is at c.in_ok-cells.ensures) (c.if-not-is_group.ensures refl))
