use Rattle.phone_plans.proofs.LastPlaces.{both-last_places}
use Rattle.phone_plans.proofs.index.ids.Goals as goal

pub returns-clause-lasts : goal.returns-clause-lasts
returns-clause-lasts c =
    both-last_places (λ v. v.items) c.args.territories.now c.in_ok-by_id.by_id _ c.lasts-lasts.result c.zip.result
    c.in_ok-by_id.ensures.last c.lasts-lasts.ensures c.zip.ensures.made
