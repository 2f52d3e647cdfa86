use Rattle.std.proofs.Common.{◌≡◌, Some, None, option_map, IfSome, ap, sym, subst, ◌∙◌}
use Rattle.phone_library.proofs.CodeTerritories.{last_main-first, last_main-turn, if_asked}
use Rattle.phone_library.specs.Homes.{TellsKind, territory_of}
use Rattle.phone_library.specs.Kinds.{has_digits}
use Rattle.phone_library.proofs.homes.last_main.Goals as goal

pub loop-territory-init : goal.loop-territory-init
loop-territory-init c = (
  last_main-first c.args.db.now c.args.code (has_digits c.args.digits.now) c.into_iter-territory-iterator.result
      (c.into_iter-territory-iterator.ensures.into_iter_gives ∙ c.of_code-territory-items.ensures),
  tt,
)

pub loop-territory-preserved-in-Some-2 : goal.loop-territory-preserved-in-Some-2
loop-territory-preserved-in-Some-2 c =
    let p = has_digits c.args.digits.now in
    let m = c.in-Some.territory.now in
    let told : Some (territory_of c.in-Some-2.home) ≡ if_asked p m m.main_country_for_code =
    ap (option_map territory_of) (sym c.in-Some-2.is) ∙ c.in_ok-home.ensures.territory ∙ ap (λ b. if_asked p m b) c.is_main_country_for_code.ensures in (
      last_main-turn p m _ _ (option_map territory_of c.loop-territory.found) _ (Some (territory_of c.in-Some-2.home))
          c.loop-territory.invariant.0 c.in-Some.ensures.steps told,
      subst (λ o. IfSome o (TellsKind c.args.digits.now)) c.in-Some-2.is c.in_ok-home.ensures.kind,
    )

pub loop-territory-preserved : goal.loop-territory-preserved
loop-territory-preserved c =
    let p = has_digits c.args.digits.now in
    let m = c.in-Some.territory.now in
    let told : None ≡ if_asked p m m.main_country_for_code =
    ap (option_map territory_of) (sym c.in_default.is) ∙ c.in_ok-home.ensures.territory ∙ ap (λ b. if_asked p m b) c.is_main_country_for_code.ensures in (
      last_main-turn p m _ _ (option_map territory_of c.loop-territory.found) _ None c.loop-territory.invariant.0 c.in-Some.ensures.steps told,
      c.loop-territory.invariant.1,
    )
