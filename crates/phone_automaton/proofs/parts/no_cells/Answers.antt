use Rattle.std.proofs.Common.{subst, sym}
use Rattle.phone_automaton.proofs.Parting.{none_told}
use Rattle.phone_automaton.specs.Parts.{AreFrontCells}
use Rattle.phone_automaton.proofs.parts.no_cells.Goals as goal

pub returns : goal.returns
returns c = λ re. subst (AreFrontCells re) (sym c.new.ensures.items) (none_told re)
