use Rattle.std.proofs.Common.{ap, sym, option_map, IfOk, subst, ◌≡◌, ◌∙◌}
use Rattle.std.specs.Option.{option_or}
use Rattle.phone_read.specs.Origins.{first_other, shown}
use Rattle.phone_read.specs.Regions.{is_of_last}
use Rattle.phone_read.proofs.validator.first_region.Goals as goal

pub returns-in-Some-clause-region : goal.returns-in-Some-clause-region
returns-in-Some-clause-region c =
    let others = first_other (is_of_last c.args.text.now) c.args.all.now in
    ap (λ o. option_or (option_map shown o) others) (sym c.in-Some.is)
    ∙ ap (λ o. option_or o others) (rw c.again.ensures at c.in_ok-found.ensures.region)

pub returns-in-None-clause-region : goal.returns-in-None-clause-region
returns-in-None-clause-region c =
    let others = first_other (is_of_last c.args.text.now) c.args.all.now in
    let same =
    ap (λ o. option_or (option_map shown o) others) (sym c.in-None.is)
    ∙ ap (λ o. option_or o others) (rw c.again.ensures at c.in_ok-found.ensures.region) in
    subst (λ o. IfOk c.first_other_region.result (λ r. option_map shown r ≡ o)) same (rw c.again-in-None.ensures at c.first_other_region.ensures.region)
