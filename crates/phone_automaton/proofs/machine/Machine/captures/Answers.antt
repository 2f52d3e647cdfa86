use Rattle.std.proofs.Common.{◌≡◌, ◌+◌, ◌*◌, List, ℕ, length, option_map, ap, sym, ◌∙◌}
use Rattle.phone_automaton.specs.declared.automaton.Tables.{Tables}
use Rattle.phone_automaton.specs.Finds.{captured, finds, found_by, Searcher}
use Rattle.phone_automaton.specs.Groups.{captured_at}
use Rattle.phone_automaton.proofs.Bridge.{captured_found}
use Rattle.phone_automaton.proofs.machine.Machine.captures.Goals as goal

pub returns-clause-found : goal.returns-clause-found
returns-clause-found c =
    let hay = c.args.hay.now in
    let last = c.self.inside.last in
    let cells = c.find_groups.new.groups.cells.items in
    let room : length cells ≡ 2 * last + 2 = sym (ap length c.cells.ensures.items) ∙ c.cells.ensures.len ∙ c.in_ok-found.ensures.width ∙ c.self.inside.room in
    c.captured_at.ensures
    ∙ ap (λ (xs : List ℕ). option_map (captured_at last xs) c.in_ok-found.found) c.cells.ensures.items
    ∙ captured_found hay c.deref-tables.result.now.dfa.nfa c.in_ok-found.found cells last c.in_ok-found.ensures.found room
    ∙ ap (λ (d : Tables). option_map (captured last) (found_by d.dfa.nfa hay)) c.deref-tables.ensures
    ∙ ap (λ (s : Searcher). option_map (captured s.last) (finds s hay)) (c.self.view_is ∙ c.attend_groups.ensures)
