use Rattle.std.proofs.Common.{◌≡◌, MatchOption, ap, ◌∙◌}
use Rattle.regex_syntax.specs.Grammar.{Names}
use Rattle.phone_automaton.specs.declared.automaton.Tables.{Tables}
use Rattle.phone_automaton.specs.Finds.{finds, found_by, Searcher}
use Rattle.phone_automaton.specs.Groups.{IsFoundIn}
use Rattle.phone_automaton.specs.Templates.{with_match_replaced}
use Rattle.phone_automaton.proofs.Bridge.{made_again, replaced_found, Parts}
use Rattle.phone_automaton.proofs.machine.Machine.replace.Goals as goal

pub returns-clause-replaced : goal.returns-clause-replaced
returns-clause-replaced c =
    let template = c.args.template.now in
    let hay = c.args.hay.now in
    let nfa = c.deref.result.now.dfa.nfa in
    let cells = c.find_groups.new.groups.cells.items in
    let found = c.in-Some.found in
    let there : (names : Names) → with_match_replaced names template hay (found_by nfa hay) ≡ with_match_replaced names template hay (finds c.args.self.now hay) =
    λ names.
    ap (λ (d : Tables). with_match_replaced names template hay (found_by d.dfa.nfa hay)) c.deref.ensures
    ∙ ap (λ (s : Searcher). with_match_replaced names template hay (finds s hay)) (c.self.view_is ∙ c.attend_groups.ensures) in
    let told : IsFoundIn nfa hay cells found = rw c.as_bytes-bytes.ensures.value at c.in-Some.ensures.found in
    made_again
    (λ text. MatchOption found (text ≡ hay) (λ s. Parts template hay cells s text))
    (λ text. (names : Names) → text ≡ with_match_replaced names template hay (finds c.args.self.now hay))
    (λ text made names. replaced_found template hay nfa found cells text told made names ∙ there names)
    c.replace_if_any.result
    (rw c.cells.ensures.items at c.replace_if_any.ensures)
