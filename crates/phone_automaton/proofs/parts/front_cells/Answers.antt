use Rattle.std.proofs.Common.{◌≡◌, ◌∷◌, [], IfOk, ap, subst, sym, ◌∙◌}
use Rattle.regex_hir.proofs.MeaningLemmas.{meaning-Concat}
use Rattle.regex_hir.specs.Meaning.{meaning}
use Rattle.regex_syntax.specs.Same.{sequence}
use Rattle.regex.proofs.ReplaceLemmas.{IfOk-weaker}
use Rattle.phone_automaton.proofs.Parting.{one_told}
use Rattle.phone_automaton.specs.Parts.{AreFrontCells}
use Rattle.phone_automaton.proofs.parts.front_cells.Goals as goal

pub returns-in-Concat : goal.returns-in-Concat
returns-in-Concat c =
    let same : sequence c.deref.result.now ≡ meaning c.args.hir.now =
    ap sequence c.deref.ensures.value ∙ sym (ap meaning c.in-Concat.is ∙ meaning-Concat c.in-Concat.subs) in
    subst (λ re. IfOk c.front_cells_of_all.result (λ cells. AreFrontCells re cells.items)) same c.front_cells_of_all.ensures

pub returns-in-Capture : goal.returns-in-Capture
returns-in-Capture c =
    IfOk-weaker (λ cells. AreFrontCells (sequence (c.args.hir.now ∷ [])) cells.items) (λ cells. AreFrontCells (meaning c.args.hir.now) cells.items)
    (λ cells are. one_told c.args.hir.now cells.items are) c.front_cells_of_all-in-Capture.result
    (rw c.from_ref.ensures.value at c.front_cells_of_all-in-Capture.ensures)
