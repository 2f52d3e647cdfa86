use Rattle.std.proofs.Common.{◌≡◌, ◌∷◌, IfOk, ap, sym, subst, ◌∙◌}
use Rattle.std.specs.Option.{option_copied}
use Rattle.phone_places.proofs.Soles.{known_country, no_country, sole_country}
use Rattle.phone_places.proofs.country.territory_in.Goals as goal

pub returns-in_default : goal.returns-in_default
returns-in_default c = sym (no_country c.args.database.now c.args.code c.args.digits.now (sym c.of_code-all.ensures ∙ c.in_default.ensures.steps.0))

pub returns-in-Some-next : goal.returns-in-Some-next
returns-in-Some-next c =
    let two = sym c.of_code-all.ensures ∙ c.in-Some.ensures.steps ∙ ap (λ ms. c.in-Some.first.now ∷ ms) c.in-Some-next.ensures.steps in
    let same = known_country c.args.database.now c.args.code c.args.digits.now _ _ _ two in
    subst (λ o. IfOk c.sole_that_knows.result (λ m. option_copied m ≡ o)) same c.sole_that_knows.ensures

pub returns-in-None : goal.returns-in-None
returns-in-None c =
    let one = sym c.of_code-all.ensures ∙ c.in-Some.ensures.steps ∙ ap (λ ms. c.in-Some.first.now ∷ ms) c.in-None.ensures.steps.0 in
    sym (sole_country c.args.database.now c.args.code c.args.digits.now c.in-Some.first.now one)
