use Rattle.phone_automaton.proofs.Writing.{in_braces_named}
use Rattle.phone_automaton.proofs.template.named_in_braces.Goals as goal

pub returns-in-Some : goal.returns-in-Some
returns-in-Some c =
    let is = c.in-Some.ensures in
    in_braces_named c.args.rest.now c.in-Some.n is.0 is.1 is.2 is.3 is.4
