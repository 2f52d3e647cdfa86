use Rattle.std.proofs.Common.{◌≡◌, not, Some, None, option_map, ap, sym, ◌∙◌}
use Rattle.phone_library.proofs.CodeTerritories.{first_other-first, first_other-turn, if_asked}
use Rattle.phone_library.specs.Homes.{territory_of}
use Rattle.phone_library.specs.Kinds.{has_digits}
use Rattle.phone_library.proofs.homes.first_other.Goals as goal

pub loop-territory-init : goal.loop-territory-init
loop-territory-init c =
    first_other-first c.args.db.now c.args.code (has_digits c.args.digits.now) c.into_iter-territory-iterator.result
    (c.into_iter-territory-iterator.ensures.into_iter_gives ∙ c.of_code-territory-items.ensures)

pub returns-in-Some-2-clause-territory : goal.returns-in-Some-2-clause-territory
returns-in-Some-2-clause-territory c =
    let p = has_digits c.args.digits.now in
    let m = c.in-Some.territory.now in
    let told : Some (territory_of c.in-Some-2.home) ≡ if_asked p m (not m.main_country_for_code) =
    ap (option_map territory_of) (sym c.in-Some-2.is) ∙ c.in_ok-home.ensures.territory ∙ ap (λ b. if_asked p m (not b)) c.is_main_country_for_code.ensures in
    sym (first_other-turn p m _ _ _ (Some (territory_of c.in-Some-2.home)) c.loop-territory.invariant c.in-Some.ensures.steps told)

pub loop-territory-preserved : goal.loop-territory-preserved
loop-territory-preserved c =
    let p = has_digits c.args.digits.now in
    let m = c.in-Some.territory.now in
    let told : None ≡ if_asked p m (not m.main_country_for_code) =
    ap (option_map territory_of) (sym c.in_default.is) ∙ c.in_ok-home.ensures.territory ∙ ap (λ b. if_asked p m (not b)) c.is_main_country_for_code.ensures in
    first_other-turn p m _ _ _ None c.loop-territory.invariant c.in-Some.ensures.steps told
