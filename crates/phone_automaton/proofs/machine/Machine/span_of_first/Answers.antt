use Rattle.std.proofs.Common.{ap, refl, ◌∙◌, length, option_map}
use Rattle.regex_nfa.specs.Run.{run}
use Rattle.regex_vm.specs.Found.{span}
use Rattle.phone_automaton.specs.declared.automaton.Tables.{Tables}
use Rattle.phone_automaton.specs.Finds.{finds, found_by, Searcher}
use Rattle.phone_automaton.proofs.Bridge.{front_found}
use Rattle.phone_automaton.proofs.machine.Machine.span_of_first.Goals as goal

pub returns-in-At-clause-found : goal.returns-in-At-clause-found
returns-in-At-clause-found c =
    let hay = c.args.hay.now in
    let nfa = c.deref.result.now.dfa.nfa in
    front_found (run nfa hay (length hay) nfa.start) (length hay) c.in-At.end (c.in-At.ensures.end.1 refl)
    ∙ ap (λ (d : Tables). option_map span (found_by d.dfa.nfa hay)) c.deref.ensures
    ∙ ap (λ (s : Searcher). option_map span (finds s hay)) c.self.view_is
