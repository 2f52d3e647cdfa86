use Rattle.std.proofs.Common.{◌∙◌, ap, map}
use Rattle.std.specs.List.{slice_get}
use Rattle.phone_plans.specs.Lasts.{with_last}
use Rattle.phone_plans.specs.Records.{has_code, places_where}
use Rattle.phone_plans.proofs.LastPlaces.{filter_map-option_map}
use Rattle.phone_plans.proofs.Places.{filter_map-places_where}
use Rattle.phone_plans.proofs.plans.Plans.of_code_with_lasts.Goals as goal

pub returns : goal.returns
returns c =
    let db = c.args.self.now in
    let passes = has_code c.args.code in
    rw (c.places_of.ensures)
    (filter_map-option_map (with_last db) (slice_get db) (places_where passes db)
    ∙ ap (map (with_last db)) (filter_map-places_where passes db))
