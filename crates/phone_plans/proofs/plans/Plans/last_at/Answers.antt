use Rattle.std.proofs.Common.{◌∙◌, ap, sym}
use Rattle.std.specs.List.{slice_get}
use Rattle.std.specs.Option.{option_and_then}
use Rattle.phone_plans.proofs.LastPlaces.{last_of-place}
use Rattle.phone_plans.proofs.Places.{copied_item}
use Rattle.phone_plans.proofs.plans.Plans.last_at.Goals as goal

pub returns-in_err-last : goal.returns-in_err-last
returns-in_err-last c =
    let db = c.args.self.now in
    rw (c.from_residual.ensures) (ap (option_and_then (slice_get db)) c.in_err-last.ensures ∙ sym (last_of-place db c.args.place))

pub returns : goal.returns
returns c =
    let db = c.args.self.now in
    let last = c.in_ok-last.last in
    copied_item c.deref.result.now last c.get.result c.get.ensures.lookup
    ∙ ap (λ ms. slice_get ms last) (c.deref.ensures.value ∙ c.self.view_is)
    ∙ ap (option_and_then (slice_get db)) c.in_ok-last.ensures
    ∙ sym (last_of-place db c.args.place)
