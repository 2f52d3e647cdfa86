use Rattle.std.proofs.Common.{length, ap, sym, ◌∙◌}
use Rattle.regex_nfa.specs.Run.{run}
use Rattle.regex_nfa.specs.declared.nfa.Nfa.{Nfa}
use Rattle.phone_automaton.specs.Finds.{finds, found_by, front_end, Searcher}
use Rattle.phone_automaton.proofs.Bridge.{ends_at_front}
use Rattle.phone_automaton.proofs.automaton.Automaton.replace_at_front.Goals as goal

pub replace_at_front-requires : goal.replace_at_front-requires
replace_at_front-requires c =
    let hay = c.args.hay.now in
    let nfa = c.tables.result.now.dfa.nfa in
    sym (ends_at_front (run nfa hay (length hay) nfa.start) (length hay))
    ∙ ap (λ (n : Nfa). front_end (found_by n hay)) c.tables.ensures
    ∙ ap (λ (s : Searcher). front_end (finds s hay)) c.self.view_is
    ∙ c.requires
