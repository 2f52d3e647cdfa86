use Rattle.std.proofs.Common.{◌≡◌, IfOk, rules, subst}
use Rattle.std.specs.Option.{option_copied}
use Rattle.phone_places.specs.Areas.{IsOther, behind_token}
use Rattle.phone_values.specs.Numbers.{text_of}
use Rattle.phone_places.proofs.areas.other_asked.Goals as goal

pub returns : goal.returns
returns c =
    let n = c.args.number.now in
    let same : option_copied c.behind_token-rest.result ≡ behind_token n.code.value (text_of n.national) = search rules in
    subst (λ d. IfOk c.read_if_any.result (λ m. IsOther c.args.database.now d m)) same c.read_if_any.ensures
