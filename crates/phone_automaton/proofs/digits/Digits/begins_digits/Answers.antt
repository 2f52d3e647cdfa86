use Rattle.std.proofs.Common.{◌+◌, ◌-◌, drop, slice_index, sym, ap, ◌∙◌}
use Rattle.std.specs.Option.{is_some}
use Rattle.phone_automaton.specs.Digits.{cell_at, end_by, place_of}
use Rattle.phone_automaton.proofs.Tabling.{dead_end, none_here, stepped}
use Rattle.phone_automaton.proofs.digits.Digits.begins_digits.Goals as goal

pub returns-then-place-eq0 : goal.returns-then-place-eq0
returns-then-place-eq0 c =
    let cells = c.as_slice-cells.result.now in
    let text = c.args.text.now in
    let at = c.loop-at.at in
    let i = c.loop-at.invariant in
    let cell = cell_at cells c.loop-at.place (slice_index text at - 48) in
    let behind = drop (at + 1) text in
    sym (ap is_some (ap (λ p. end_by cells p (at + 1) behind) c.if-place-eq0.true ∙ dead_end cells (at + 1) behind))
    ∙ ap is_some (sym (none_here cell at (end_by cells (place_of cell) (at + 1) behind) (sym c.ends_here.ensures ∙ c.if-ends_here.false)))
    ∙ ap is_some (sym (stepped cells text c.loop-at.place at i.0 c.loop-at-test.true))
    ∙ sym i.2
    ∙ ap (λ l. is_some (end_by l 11 0 text)) (c.as_slice-cells.ensures.value ∙ c.self.view_is)
