use Rattle.std.proofs.Common.{[], subst, rules}
use Rattle.phone_territory.specs.Refusals.{AreRead}
use Rattle.phone_territory.proofs.Refused.{one-read}
use Rattle.phone_territory.proofs.format.FormatCompile.compile.Goals as goal

pub returns-in_err-others-clause-read : goal.returns-in_err-others-clause-read
returns-in_err-others-clause-read c =
    let pattern = one-read c.args.given.pattern _ c.pattern-pattern.result c.unwrap.ensures c.pattern-pattern.ensures.read c.pattern-pattern.ensures.refused in
    let leading = subst (λ texts. AreRead texts c.leading-leading.result) c.into_vec.ensures (c.leading-leading.ensures.read, c.leading-leading.ensures.refused) in
    let all = c.in_err-others.ensures.read [] _ (tt, tt) (c.zip_read.ensures.read _ _ pattern leading) in
    search (rules, all)

pub returns-clause-read : goal.returns-clause-read
returns-clause-read c =
    let pattern = one-read c.args.given.pattern _ c.pattern-pattern.result c.unwrap.ensures c.pattern-pattern.ensures.read c.pattern-pattern.ensures.refused in
    let leading = subst (λ texts. AreRead texts c.leading-leading.result) c.into_vec.ensures (c.leading-leading.ensures.read, c.leading-leading.ensures.refused) in
    let all = c.in_ok-others.ensures.read [] _ (tt, tt) (c.zip_read.ensures.read _ _ pattern leading) in
    all
