use Rattle.std.proofs.Common.{◌++◌, [], append-nil, ap, map, sym, ◌∙◌}
use Rattle.std.specs.List.{cons_option, filter_map}
use Rattle.phone_index.specs.declared.grouped.Coded.{Coded}
use Rattle.phone_plans.proofs.LastItems.{filter_map-last}
use Rattle.phone_plans.proofs.of_code.WithLasts.take_last.Invariants.{at}
use Rattle.phone_plans.proofs.of_code.WithLasts.take_last.Goals as goal

pub returns-in-Some-with_last_at : goal.returns-in-Some-with_last_at
returns-in-Some-with_last_at c =
    let here = at c.loop-last.self-inside.database.now in
    let place = λ (e : Coded). e.place in
    sym c.self.view_is
    ∙ c.loop-last.invariant.1
    ∙ filter_map-last here place c.loop-last.self-inside.places.now c.in-Some.others.now c.in-Some.last.now c.in-Some.ensures.cases.0
    ∙ ap (λ o. filter_map here (map place c.in-Some.others.now) ++ cons_option o []) (sym c.in-Some-with_last_at.ensures)

pub loop-last-preserved : goal.loop-last-preserved
loop-last-preserved c =
    let here = at c.loop-last.self-inside.database.now in
    let place = λ (e : Coded). e.place in (
      c.loop-last.invariant.0,
      c.loop-last.invariant.1
          ∙ filter_map-last here place c.loop-last.self-inside.places.now c.in-Some.others.now c.in-Some.last.now c.in-Some.ensures.cases.0
          ∙ ap (λ o. filter_map here (map place c.in-Some.others.now) ++ cons_option o []) (sym c.in_default-with_last_at.ensures)
          ∙ append-nil _,
    )
