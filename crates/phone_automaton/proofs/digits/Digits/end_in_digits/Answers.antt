use Rattle.std.proofs.Common.{◌+◌, ◌-◌, drop, slice_index, sym, ap, ◌∙◌}
use Rattle.regex_dfa.specs.Links.{best}
use Rattle.phone_automaton.specs.Digits.{cell_at, end_by, place_of}
use Rattle.phone_automaton.proofs.Tabling.{further, given_up}
use Rattle.phone_automaton.proofs.digits.Digits.end_in_digits.Goals as goal

pub returns-then-place-eq0-clause-end : goal.returns-then-place-eq0-clause-end
returns-then-place-eq0-clause-end c =
    let cells = c.as_slice-cells.result.now in
    let text = c.args.text.now in
    let at = c.loop-at.at in
    let i = c.loop-at.invariant in
    let cell = cell_at cells c.loop-at.place (slice_index text at - 48) in
    c.best.ensures
    ∙ ap best c.last_after-last.ensures
    ∙ sym (given_up cells (drop (at + 1) text) (place_of cell) (at + 1) _ c.if-place-eq0.true)
    ∙ sym (further cells text c.loop-at.place at c.loop-at.last i.0 c.loop-at-test.true)
    ∙ sym i.3
    ∙ ap (λ l. end_by l 11 0 text) (c.as_slice-cells.ensures.value ∙ c.self.view_is)
