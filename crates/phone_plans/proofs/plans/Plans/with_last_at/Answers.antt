use Rattle.std.proofs.Common.{◌≡◌, ◌∙◌, None, Some, ap, option_map, sym}
use Rattle.std.specs.List.{slice_get}
use Rattle.std.specs.Option.{option_and_then}
use Rattle.phone_plans.specs.Lasts.{last_of, with_last}
use Rattle.phone_plans.proofs.Places.{copied_item}
use Rattle.phone_plans.proofs.plans.Plans.with_last_at.Goals as goal

pub returns-in_err-territory : goal.returns-in_err-territory
returns-in_err-territory c =
    let db = c.args.self.now in
    rw (c.from_residual.ensures)
    (ap (option_map (with_last db))
    (copied_item c.deref.result.now c.args.place None c.in_err-territory.ensures.lookup
    ∙ ap (λ ms. slice_get ms c.args.place) (c.deref.ensures.value ∙ c.self.view_is)))

pub returns : goal.returns
returns c =
    let db = c.args.self.now in
    let m = c.in_ok-territory.territory.now in
    let at : Some m ≡ slice_get db c.args.place =
    copied_item c.deref.result.now c.args.place (Some c.in_ok-territory.territory) c.in_ok-territory.ensures.lookup
    ∙ ap (λ ms. slice_get ms c.args.place) (c.deref.ensures.value ∙ c.self.view_is) in
    ap (λ o. Some (m, o)) (c.last_at-last.ensures ∙ ap (option_and_then (last_of db)) (sym at))
    ∙ ap (option_map (with_last db)) at
