use Rattle.std.proofs.Common.{◌≡◌, ◌++◌, length, ◌∙◌}
use Rattle.std.proofs.lemmas.List.{length-set}
use Rattle.phone_automaton.specs.Rows.{IsEither}
use Rattle.phone_automaton.proofs.Joining.{Grows-twice, IfSome-both, LeadInto-grows, more_joined}
use Rattle.phone_automaton.proofs.Joining.{more_leads, pushed_either}
use Rattle.phone_automaton.proofs.rows.+join.Goals as goal

pub either-returns-clause-either : goal.either-returns-clause-either
either-returns-clause-either t c =
    let old = c.join.new.rows in
    let new = c.push.new.self in
    let row = c.in_ok-row.row in
    let a = c.args.a in
    let b = c.args.b in
    let made = c.in_ok-row.ensures in
    IfSome-both (λ place. new ≡ old ++ row) (λ place. place ≡ length old)
    (λ place. IsEither new place a b) c.push.result
    (λ place grown at. pushed_either c.args.rows.now old row new c.row-of_a.result c.row-of_b.result
    a b place c.row-of_a.ensures.known grown c.push.ensures.known made.grows at
    c.if-a-eq0.false c.if-b-eq0.false c.requires.first c.requires.second c.row-of_a.ensures.cells
    c.row-of_b.ensures.cells
    c.row-of_a.ensures.leads c.row-of_b.ensures.leads made.lead made.either)
    c.push.ensures.grows c.push.ensures.place

pub join-loop-column-preserved : goal.join-loop-column-preserved
join-loop-column-preserved t c =
    let l = c.loop-column in
    let i = l.invariant in
    let old = l.rows in
    let new = c.either_cell.new.rows in
    let grows = c.in_ok-cell.ensures.grows in
    let cell = c.in_ok-cell.cell in
    let joined = c.in_ok-cell.ensures.either in
    let low = c.loop-column-test.true in
    let lead_a = LeadInto-grows c.args.rows.now old c.args.a.now i.grows c.requires.first in
    let lead_b = LeadInto-grows c.args.rows.now old c.args.b.now i.grows c.requires.second in
    record {
      grows = Grows-twice c.args.rows.now old new i.grows grows;
      cells = length-set l.row _ _ ∙ i.cells;
      lead = more_leads old new l.row l.column cell grows i.cells low i.lead
          c.in_ok-cell.ensures.place;
      either = more_joined old new l.row c.args.a.now c.args.b.now l.column cell
          c.known.ensures.rows grows lead_a lead_b i.cells low i.lead i.either joined;
      last_place = c.in_ok-cell.ensures.place;
      last_either = joined;
    }
