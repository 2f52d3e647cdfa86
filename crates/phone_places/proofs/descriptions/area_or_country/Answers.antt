use Rattle.std.proofs.lemmas.Result.{IfOk-weaker}
use Rattle.phone_places.proofs.Chosen.{area_told, country_told}
use Rattle.phone_places.specs.Countries.{country_name}
use Rattle.phone_places.specs.Descriptions.{IsAreaOrCountry}
use Rattle.phone_places.proofs.descriptions.area_or_country.Goals as goal

pub returns-then-is_empty : goal.returns-then-is_empty
returns-then-is_empty c =
    let db = c.args.database.now in
    let atlas = c.args.atlas.now in
    let n = c.args.number.now in
    let area = c.in_ok-area.area.now in
    IfOk-weaker c.country_name.result _ (λ t. IsAreaOrCountry db atlas n t.now)
    (λ t h. (area, c.in_ok-area.ensures, country_told area (country_name db atlas n) c.is_empty.result c.is_empty.ensures t.now c.if-is_empty.true h))
    c.country_name.ensures

pub returns-else-is_empty : goal.returns-else-is_empty
returns-else-is_empty c =
    let area = c.in_ok-area.area.now in
    let country = country_name c.args.database.now c.args.atlas.now c.args.number.now in
    (area, c.in_ok-area.ensures, area_told area country c.is_empty.result c.is_empty.ensures c.if-is_empty.false)
