use Rattle.std.proofs.Common.{ap, ◌∙◌}
use Rattle.phone_automaton.specs.Finds.{finds, Searcher}
use Rattle.phone_automaton.specs.Templates.{with_match_replaced}
use Rattle.phone_pattern.specs.First.{names_in}
use Rattle.phone_pattern.proofs.Serving.{replaced_served}
use Rattle.phone_pattern.proofs.scans.replace.Goals as goal

pub returns-in-Some-2 : goal.returns-in-Some-2
returns-in-Some-2 c =
    let hay = c.args.text.now in
    let template = c.args.template.now in
    let pattern = c.args.plan.now in
    let names = names_in pattern in
    let shape = c.in-Some.ensures in
    let serves = rw c.in-Some-take.ensures.own at shape.2 in
    let told = rw c.in-Some-2.is at c.in_ok-out.ensures.replaced in
    told names
    ∙ ap (λ (s : Searcher). with_match_replaced names template hay (finds s hay)) c.deref_mut.ensures.value
    ∙ replaced_served pattern hay c.in-Some-take.machine.value serves c.in-Some-take.ensures.ascii template
