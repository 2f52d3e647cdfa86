use Rattle.phone_plans.specs.Records.{has_code}
use Rattle.phone_plans.proofs.Places.{filter_map-places_where}
use Rattle.phone_plans.proofs.plans.Plans.of_code.Goals as goal

pub returns : goal.returns
returns c = rw (c.places_of.ensures, c.territories.ensures) (filter_map-places_where (has_code c.args.code) c.args.self.now)
