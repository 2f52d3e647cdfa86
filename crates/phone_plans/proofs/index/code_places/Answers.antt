use Rattle.std.proofs.Common.{ap, sym, refl, filter, map, unwrap_or, ◌∙◌}
use Rattle.phone_index.specs.Orders as placed
use Rattle.phone_index.specs.declared.grouped.Coded.{Coded}
use Rattle.phone_plans.proofs.Indexes.{places-take}
use Rattle.phone_plans.proofs.index.code_places.Goals as goal

pub loop-place-preserved : goal.loop-place-preserved
loop-place-preserved c = λ code.
    let e : Coded = record { code = c.country_code.result; place = c.loop-place.place } in
    ap (λ es. map (λ e. e.place) (filter (placed.has_code code) es)) c.in_ok-push.ensures.items
    ∙ places-take code c.args.territories.now c.loop-place.place c.index-territories-place.result c.loop-place.coded.items e c.loop-place-test.true c.index-territories-place.is (ap (λ o. unwrap_or o 0) (sym c.country_code.ensures)) refl (c.loop-place.invariant code)
