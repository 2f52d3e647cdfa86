use Rattle.std.proofs.Common.{◌≡◌, [], unwrap_or, ap, sym, refl, map, reverse, ◌∙◌}
use Rattle.phone_territory.specs.Records.{id_of}
use Rattle.phone_index.specs.Orders.{place_of, text_of}
use Rattle.phone_index.specs.declared.sorted.Named.{Named}
use Rattle.phone_plans.proofs.Indexes.{ids-take, place_of-take}
use Rattle.phone_meta.proofs.index.id_places.Goals as goal

pub loop-place-preserved : goal.loop-place-preserved
loop-place-preserved c =
    let k = c.loop-place.place in
    let e : Named = record { text = c.in_ok-from_str.field-0; place = k } in
    let es = c.loop-place.named.items in
    let m = c.index-territories-place.result in
    let db = c.args.territories.now in
    let text : text_of e ≡ _ = c.in_ok-from_str.ensures.ok ∙ ap (λ o. unwrap_or o []) (sym c.id.ensures) ∙ ap id_of c.deref.ensures in (
      ap (map text_of) c.in_ok-push.ensures.items ∙ ids-take db k m es e c.loop-place-test.true c.index-territories-place.is text c.loop-place.invariant.0,
      (λ id. ap (λ es. place_of id (reverse es)) c.in_ok-push.ensures.items ∙ place_of-take id db k m es e c.loop-place-test.true c.index-territories-place.is text refl (c.loop-place.invariant.1 id)),
    )
