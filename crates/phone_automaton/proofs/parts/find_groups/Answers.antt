use Rattle.std.proofs.Common.{◌<◌, ◌∙◌, ℕ, All, List, ap, arith, refl}
use Rattle.std.proofs.lemmas.List.{get_or_default}
use Rattle.phone_automaton.specs.Parts.{with_end}
use Rattle.phone_automaton.proofs.Parting.{found_by_end}
use Rattle.phone_automaton.proofs.parts.find_groups.Goals as goal

pub returns-in-At-clause-found : goal.returns-in-At-clause-found
returns-in-At-clause-found c =
    let hay = c.args.hay.now in
    let small : All (λ x. x < 256) hay = λ k d h. rw (get_or_default hay k d 0 h) (c.type_inv.hay k).fits in
    found_by_end c.args.tables.now.dfa.nfa hay c.args.tables.now.front_cells.items c.put.new.self.cells.items c.in-At.end small c.args.tables.now.front
    (omega (arith, c.put.ensures.width, c.as_slice-front.ensures.len, c.cells.ensures.len, c.if-front-cells.true)) (c.put.ensures.items ∙ ap (λ (xs : List ℕ). with_end xs c.in-At.end) c.as_slice-front.ensures.value) (c.in-At.ensures.end.1 refl)
