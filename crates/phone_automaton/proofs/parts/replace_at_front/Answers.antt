use Rattle.std.proofs.Common.{◌≡◌, ◌<◌, ◌+◌, ◌-◌, ◌∙◌, ℕ, All, List, Some, ap, length}
use Rattle.std.proofs.lemmas.List.{get_or_default, length-set}
use Rattle.regex_syntax.specs.Grammar.{Names}
use Rattle.phone_automaton.specs.Finds.{found_by}
use Rattle.phone_automaton.specs.Groups.{IsFoundIn}
use Rattle.phone_automaton.specs.Parts.{with_end}
use Rattle.phone_automaton.specs.Templates.{with_match_replaced}
use Rattle.phone_automaton.proofs.Bridge.{made_again, replaced_found, Parts}
use Rattle.phone_automaton.proofs.Parting.{found_by_end}
use Rattle.phone_automaton.proofs.parts.replace_at_front.Goals as goal

pub returns : goal.returns
returns c =
    let hay = c.args.hay.now in
    let nfa = c.args.tables.now.dfa.nfa in
    let front = c.as_slice.result.now in
    let cells = with_end front c.args.end in
    let small : All (λ x. x < 256) hay = λ k d h. rw (get_or_default hay k d 0 h) (c.type_inv.hay k).fits in
    let told : IsFoundIn nfa hay cells (Some (0, c.args.end)) =
    found_by_end nfa hay c.args.tables.now.front_cells.items cells c.args.end small c.args.tables.now.front
    (length-set front (length front - 3) (c.args.end + 1) ∙ ap length c.as_slice.ensures.value)
    (ap (λ (xs : List ℕ). with_end xs c.args.end) c.as_slice.ensures.value) c.requires in
    made_again
    (λ text. Parts c.args.template.now hay cells (0, c.args.end) text)
    (λ text. (names : Names) → text ≡ with_match_replaced names c.args.template.now hay (found_by nfa hay))
    (λ text made names. replaced_found c.args.template.now hay nfa (Some (0, c.args.end)) cells text told made names)
    c.replace_by_cells.result c.replace_by_cells.ensures
