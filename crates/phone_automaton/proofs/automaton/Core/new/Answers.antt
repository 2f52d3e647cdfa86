use Rattle.regex_hir.specs.Meaning.{meaning}
use Rattle.phone_automaton.proofs.Bridge.{finds_in_ascii}
use Rattle.phone_automaton.proofs.automaton.Core.new.Goals as goal

pub returns-in-Ok-new-clause-finds : goal.returns-in-Ok-new-clause-finds
returns-in-Ok-new-clause-finds c =
    let (re, same, implements) = c.in_ok-nfa.ensures.nfa in
    rw (c.in-Ok-new.ensures.ok, c.in-Ok.ensures.same) (finds_in_ascii (meaning c.args.parsed.now.hir) re c.in_ok-nfa.nfa same implements)
