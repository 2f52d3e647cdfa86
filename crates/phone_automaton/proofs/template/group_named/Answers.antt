use Rattle.phone_automaton.proofs.Writing.{alone_named}
use Rattle.phone_automaton.proofs.template.group_named.Goals as goal

pub returns-in-Some : goal.returns-in-Some
returns-in-Some c =
    let is = c.in-Some.ensures.digit in
    alone_named c.args.rest.now c.in-Some.n is.0 is.1 is.2 c.in-Some.ensures.alone
