use Rattle.phone_base.proofs.Outcomes.{of_done, where_done}
use Rattle.phone_print.proofs.Behinds.{append-then, behind-then}
use Rattle.phone_print.proofs.appending.push_announced.Goals as goal

pub returns-clause-text : goal.returns-clause-text
returns-clause-text c = where_done c.push_text.result (λ ok.
    let w2 = of_done c.push_text.result c.push_text.ensures.text ok in
    let w1 = of_done c.push_text-done.result c.push_text-done.ensures.text w2.0 in
    (w1.0, append-then _ _ _ _ _ w1.1 w2.1))

pub returns-clause-behind : goal.returns-clause-behind
returns-clause-behind c =
    behind-then _ _ _ c.push_text-done.ensures.behind c.push_text.ensures.behind
