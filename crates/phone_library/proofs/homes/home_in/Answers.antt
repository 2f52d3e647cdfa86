use Rattle.std.proofs.Common.{◌≡◌, ◌∷◌, option_map, IfOk, ap, sym, subst, ◌∙◌}
use Rattle.phone_library.proofs.CodeTerritories.{no_territory, several_territories, sole_territory}
use Rattle.phone_library.specs.Homes.{territory_of}
use Rattle.phone_library.proofs.homes.home_in.Goals as goal

pub returns-in_default-clause-territory : goal.returns-in_default-clause-territory
returns-in_default-clause-territory c =
    sym (no_territory c.args.db.now c.args.code c.args.digits.now (sym c.of_code-all.ensures ∙ c.in_default.ensures.steps.0))

pub returns-in-Some-next-clause-territory : goal.returns-in-Some-next-clause-territory
returns-in-Some-next-clause-territory c =
    let two = sym c.of_code-all.ensures ∙ c.in-Some.ensures.steps ∙ ap (λ ms. c.in-Some.first.now ∷ ms) c.in-Some-next.ensures.steps in
    let same = several_territories c.args.db.now c.args.code c.args.digits.now _ _ _ two in
    subst (λ o. IfOk c.home_of_several.result (λ home. option_map territory_of home ≡ o)) (sym same) (rw c.of.ensures at c.home_of_several.ensures.territory)

pub returns-in-None-clause-territory : goal.returns-in-None-clause-territory
returns-in-None-clause-territory c =
    let one = sym c.of_code-all.ensures ∙ c.in-Some.ensures.steps ∙ ap (λ ms. c.in-Some.first.now ∷ ms) c.in-None.ensures.steps.0 in
    sym (sole_territory c.args.db.now c.args.code c.args.digits.now c.in-Some.first.now one)
