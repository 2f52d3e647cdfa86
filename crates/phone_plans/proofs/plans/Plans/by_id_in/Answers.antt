use Rattle.std.proofs.Common.{sym, ◌∙◌}
use Rattle.phone_plans.specs.Records.{has_id}
use Rattle.phone_plans.proofs.Places.{none_placed, some_placed, copied_item}
use Rattle.phone_plans.proofs.plans.Plans.by_id_in.Goals as goal

pub returns-in_err-place-clause-territory : goal.returns-in_err-place-clause-territory
returns-in_err-place-clause-territory c =
    rw (c.from_residual.ensures, ← c.self.view_is)
    (sym (none_placed (has_id c.args.id.now) c.self.inside.territories.items (sym (c.self.invariant.0 c.args.id.now) ∙ sym c.in_err-place.ensures.place)))

pub returns-clause-territory : goal.returns-clause-territory
returns-clause-territory c =
    let place = c.in_ok-place.place in
    rw (← c.self.view_is)
    (copied_item c.deref.result.now place c.get.result c.get.ensures.lookup
    ∙ rw c.deref.ensures.value (some_placed (has_id c.args.id.now) c.self.inside.territories.items place
    (sym (c.self.invariant.0 c.args.id.now) ∙ sym c.in_ok-place.ensures.place)))
