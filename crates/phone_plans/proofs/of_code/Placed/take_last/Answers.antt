use Rattle.std.proofs.Common.{◌++◌, [], Some, None, append-nil, ap, map, sym, ◌∙◌}
use Rattle.std.specs.List.{cons_option, filter_map, slice_get}
use Rattle.phone_index.specs.declared.grouped.Coded.{Coded}
use Rattle.phone_plans.proofs.LastItems.{filter_map-last}
use Rattle.phone_plans.proofs.Places.{copied_item}
use Rattle.phone_plans.proofs.of_code.Placed.take_last.Goals as goal

pub returns-in-Some-get : goal.returns-in-Some-get
returns-in-Some-get c =
    let at = slice_get c.loop-last.self-inside.territories.now in
    let place = λ (e : Coded). e.place in
    sym c.self.view_is
    ∙ c.loop-last.invariant.1
    ∙ filter_map-last at place c.loop-last.self-inside.places.now c.in-Some.others.now c.in-Some.last.now c.in-Some.ensures.cases.0
    ∙ ap (λ o. filter_map at (map place c.in-Some.others.now) ++ cons_option o []) (sym (copied_item _ c.in-Some.last.now.place (Some c.in-Some-get.territory) c.in-Some-get.ensures.lookup))

pub loop-last-preserved : goal.loop-last-preserved
loop-last-preserved c =
    let at = slice_get c.loop-last.self-inside.territories.now in
    let place = λ (e : Coded). e.place in (
      c.loop-last.invariant.0,
      c.loop-last.invariant.1
          ∙ filter_map-last at place c.loop-last.self-inside.places.now c.in-Some.others.now c.in-Some.last.now c.in-Some.ensures.cases.0
          ∙ ap (λ o. filter_map at (map place c.in-Some.others.now) ++ cons_option o []) (sym (copied_item _ c.in-Some.last.now.place None c.in_default-get.ensures.lookup))
          ∙ append-nil _,
    )
