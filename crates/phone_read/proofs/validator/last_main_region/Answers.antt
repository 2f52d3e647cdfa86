use Rattle.std.proofs.Common.{Some, None, option_map, ap, sym, ◌∙◌}
use Rattle.phone_plans.specs.Lasts.{seen}
use Rattle.phone_read.specs.Origins.{latest_main, shown}
use Rattle.phone_read.specs.Regions.{is_of_last}
use Rattle.phone_read.proofs.Regional.{latest_main-turn}
use Rattle.phone_read.proofs.validator.last_main_region.Goals as goal

pub returns-in-Some-2-clause-region : goal.returns-in-Some-2-clause-region
returns-in-Some-2-clause-region c =
    sym (latest_main-turn (is_of_last c.args.text.now) (seen c.in-Some.pair) _ _ _ (Some (shown c.in-Some-2.found)) c.loop-pair.invariant c.in-Some.ensures
    (ap (option_map shown) (sym c.in-Some-2.is) ∙ rw c.is_main_country_for_code.ensures at c.in_ok-found.ensures.region))

pub loop-pair-preserved : goal.loop-pair-preserved
loop-pair-preserved c =
    latest_main-turn (is_of_last c.args.text.now) (seen c.in-Some.pair) _ _ _ None c.loop-pair.invariant c.in-Some.ensures
    (ap (option_map shown) (sym c.in_default-2.is) ∙ rw c.is_main_country_for_code.ensures at c.in_ok-found.ensures.region)

pub returns-clause-region : goal.returns-clause-region
returns-clause-region c = sym (c.loop-pair.invariant ∙ ap (latest_main (is_of_last c.args.text.now)) c.in_default.ensures.0)
