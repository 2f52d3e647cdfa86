use Rattle.std.proofs.Common.{◌≡◌, sym, subst, ◌∙◌, rules}
use Rattle.std.proofs.lemmas.Result.{IfOk-weaker}
use Rattle.std.specs.Option.{option_copied}
use Rattle.phone_languages.specs.Atlases.{name_in}
use Rattle.phone_places.specs.Descriptions.{IsDescribedIn}
use Rattle.phone_places.specs.Descriptions.IsDescribedIn.{elsewhere, here}
use Rattle.phone_values.specs.Ids.{name}
use Rattle.phone_places.proofs.descriptions.described_in.Goals as goal

pub returns-then-is_elsewhere : goal.returns-then-is_elsewhere
returns-then-is_elsewhere c =
    let is : c.name.result.now ≡ name_in c.args.atlas.now (name c.args.region) = search rules in
    let so = sym c.is_elsewhere.ensures ∙ c.if-is_elsewhere.true in
    subst (IsDescribedIn c.args.region c.args.database.now c.args.atlas.now (option_copied c.args.user) c.args.number.now) (sym is) (elsewhere so)

pub returns-else-is_elsewhere : goal.returns-else-is_elsewhere
returns-else-is_elsewhere c =
    let so = sym c.is_elsewhere.ensures ∙ c.if-is_elsewhere.false in
    IfOk-weaker c.area_or_country.result _
    (λ t. IsDescribedIn c.args.region c.args.database.now c.args.atlas.now (option_copied c.args.user) c.args.number.now t.now)
    (λ t h. here t.now so h) c.area_or_country.ensures
