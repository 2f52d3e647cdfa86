use Rattle.std.proofs.Common.{◌≡◌, ◌∷◌, IfOk, ap, option_map, sym, subst, ◌∙◌}
use Rattle.phone_plans.specs.Lasts.{seen}
use Rattle.phone_read.specs.Origins.{told}
use Rattle.phone_read.proofs.ToldKinds.{none_told}
use Rattle.phone_read.proofs.Regional.{no_origin, several_found, sole_origin}
use Rattle.phone_read.proofs.validator.origin_of.Goals as goal

pub returns-in_default-clause-origin : goal.returns-in_default-clause-origin
returns-in_default-clause-origin c =
    sym (no_origin c.args.db.now c.args.code c.args.text.now (sym c.of_code_with_lasts-all.ensures ∙ sym c.again-rest.ensures ∙ c.in_default.ensures.steps.0))

pub returns-in-Some-next-clause-origin : goal.returns-in-Some-next-clause-origin
returns-in-Some-next-clause-origin c =
    let two = sym c.again-rest.ensures ∙ c.in-Some.ensures.steps ∙ ap (λ ts. seen c.in-Some.first ∷ ts) c.in-Some-next.ensures.steps in
    subst (λ o. IfOk c.origin_of_several.result (λ r. option_map told r ≡ o))
    (several_found c.args.db.now c.args.code c.args.text.now _ _ _ _ c.of_code_with_lasts-all.ensures two) (rw c.of.ensures at c.origin_of_several.ensures.origin)

pub returns-in-None-clause-origin : goal.returns-in-None-clause-origin
returns-in-None-clause-origin c =
    let one = sym c.of_code_with_lasts-all.ensures ∙ sym c.again-rest.ensures ∙ c.in-Some.ensures.steps ∙ ap (λ ts. seen c.in-Some.first ∷ ts) c.in-None.ensures.steps.0 in
    c.sole.ensures.origin ∙ sole_origin c.args.db.now c.args.code c.args.text.now (seen c.in-Some.first) one

pub returns-in-None-clause-kind : goal.returns-in-None-clause-kind
returns-in-None-clause-kind c = none_told c.args.text.now _ c.sole.ensures.kind
