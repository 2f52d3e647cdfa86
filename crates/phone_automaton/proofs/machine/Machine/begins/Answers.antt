use Rattle.std.proofs.Common.{ap, ◌∙◌, length}
use Rattle.regex_nfa.specs.Run.{run}
use Rattle.phone_automaton.specs.declared.automaton.Tables.{Tables}
use Rattle.phone_automaton.specs.Finds.{at_front, finds, found_by, Searcher}
use Rattle.phone_automaton.proofs.Bridge.{begins_there, begins_nowhere}
use Rattle.phone_automaton.proofs.machine.Machine.begins.Goals.{in-At, in-NoMatch, in_default}
use Rattle.phone_automaton.proofs.machine.Machine.begins.Goals as goal

pub returns-clause-found : goal.returns-clause-found
returns-clause-found c =
    let hay = c.args.hay.now in
    let nfa = c.deref.result.now.dfa.nfa in
    let there =
    ap (λ (d : Tables). at_front (found_by d.dfa.nfa hay)) c.deref.ensures ∙ ap (λ (s : Searcher). at_front (finds s hay)) c.self.view_is in
    elim c.match-find_end.branch [
      | in-At w ↦ rw w.result-is (begins_there (run nfa hay (length hay) nfa.start) (length hay) w.in-At.ensures.end.0 ∙ there)
      | in-NoMatch w ↦ rw w.result-is (begins_nowhere (run nfa hay (length hay) nfa.start) (length hay) w.in-NoMatch.ensures.end ∙ there)
      | in_default w ↦ rw w.result-is tt
    ]
