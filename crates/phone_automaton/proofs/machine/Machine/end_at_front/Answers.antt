use Rattle.std.proofs.Common.{ap, refl, sym, ◌∙◌, length}
use Rattle.regex_nfa.specs.Run.{run}
use Rattle.phone_automaton.specs.declared.automaton.Tables.{Tables}
use Rattle.phone_automaton.specs.Finds.{finds, found_by, front_end, Searcher}
use Rattle.phone_automaton.proofs.Bridge.{ends_at_front}
use Rattle.phone_automaton.proofs.machine.Machine.end_at_front.Goals.{in-At, in-NoMatch, in_default}
use Rattle.phone_automaton.proofs.machine.Machine.end_at_front.Goals as goal

pub returns-clause-found : goal.returns-clause-found
returns-clause-found c =
    let hay = c.args.hay.now in
    let nfa = c.deref.result.now.dfa.nfa in
    let there =
    sym (ends_at_front (run nfa hay (length hay) nfa.start) (length hay))
    ∙ ap (λ (d : Tables). front_end (found_by d.dfa.nfa hay)) c.deref.ensures
    ∙ ap (λ (s : Searcher). front_end (finds s hay)) c.self.view_is in
    elim c.match-find_end.branch [
      | in-At w ↦ rw w.result-is (sym (w.in-At.ensures.end.1 refl) ∙ there)
      | in-NoMatch w ↦ rw w.result-is (sym w.in-NoMatch.ensures.end ∙ there)
      | in_default w ↦ rw w.result-is tt
    ]

pub returns-clause-within : goal.returns-clause-within
returns-clause-within c =
    elim c.match-find_end.branch [
      | in-At w ↦ rw w.result-is w.in-At.ensures.end.3
      | in-NoMatch w ↦ rw w.result-is tt
      | in_default w ↦ rw w.result-is tt
    ]
