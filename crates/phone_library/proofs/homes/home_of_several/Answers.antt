use Rattle.std.proofs.Common.{◌≡◌, filter, option_map, IfOk, ap, sym, subst, ◌∙◌}
use Rattle.std.specs.List.{find}
use Rattle.std.specs.Option.{option_or}
use Rattle.phone_library.proofs.CodeTerritories.{find-territories}
use Rattle.phone_library.specs.Homes.{territory_of}
use Rattle.phone_library.specs.Kinds.{has_digits}
use Rattle.phone_plans.specs.CodeLookUps.{is_other_of}
use Rattle.phone_library.proofs.homes.home_of_several.Goals as goal

pub returns-in-Some-clause-territory : goal.returns-in-Some-clause-territory
returns-in-Some-clause-territory c =
    let p = has_digits c.args.digits.now in
    let others = find p (filter (is_other_of c.args.code) c.args.db.now) in
    ap (λ o. option_or (option_map territory_of o) others) (sym c.in-Some.is)
    ∙ ap (λ o. option_or o others) c.in_ok-home.ensures.territory
    ∙ sym (find-territories p c.args.db.now c.args.code)

pub returns-in-None-clause-territory : goal.returns-in-None-clause-territory
returns-in-None-clause-territory c =
    let p = has_digits c.args.digits.now in
    let others = find p (filter (is_other_of c.args.code) c.args.db.now) in
    let same =
    ap (λ o. option_or (option_map territory_of o) others) (sym c.in-None.is)
    ∙ ap (λ o. option_or o others) c.in_ok-home.ensures.territory
    ∙ sym (find-territories p c.args.db.now c.args.code) in
    subst (λ o. IfOk c.first_other.result (λ home. option_map territory_of home ≡ o)) same c.first_other.ensures.territory
