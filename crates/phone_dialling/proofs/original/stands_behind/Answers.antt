use Rattle.std.proofs.Common.{◌≡◌, ℕ, List, Option, IfOk, rules, subst}
use Rattle.phone_values.specs.declared.country.Id.{Id}
use Rattle.phone_dialling.specs.Original.{IsBehind, digits_of}
use Rattle.phone_dialling.proofs.original.stands_behind.Goals as goal

pub returns : goal.returns
returns c =
    let db = c.args.database.now in
    let prefix = c.args.prefix.now in
    let digits : c.as_str.result.now ≡ digits_of c.args.raw.now = search rules in
    let by_text = subst (λ (d : List ℕ). IfOk c.is_behind.result (IsBehind db c.region.result prefix d)) digits c.is_behind.ensures in
    subst (λ (o : Option Id). IfOk c.is_behind.result (IsBehind db o prefix (digits_of c.args.raw.now))) c.region.ensures.region by_text
