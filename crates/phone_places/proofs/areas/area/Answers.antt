use Rattle.std.proofs.Common.{Some, None, subst}
use Rattle.std.proofs.lemmas.Result.{IfOk-weaker}
use Rattle.phone_places.specs.Areas.{IsAreaOf, IsOther, behind_token}
use Rattle.phone_values.specs.Numbers.{text_of}
use Rattle.phone_places.proofs.areas.area.Goals as goal

pub returns-in-Some : goal.returns-in-Some
returns-in-Some c =
    let n = c.args.number.now in
    let other = subst (IsOther c.args.database.now (behind_token n.code.value (text_of n.national))) c.in-Some.is c.in_ok-other.ensures in
    IfOk-weaker c.area_of.result _ (λ t. IsAreaOf c.args.database.now c.args.atlas.now n t.now) (λ t h. (Some c.in-Some.other, other, h)) c.area_of.ensures

pub returns-in-None : goal.returns-in-None
returns-in-None c =
    let n = c.args.number.now in
    let none = subst (IsOther c.args.database.now (behind_token n.code.value (text_of n.national))) c.in-None.is c.in_ok-other.ensures in
    IfOk-weaker c.area_of-in-None.result _ (λ t. IsAreaOf c.args.database.now c.args.atlas.now n t.now) (λ t h. (None, none, h)) c.area_of-in-None.ensures
