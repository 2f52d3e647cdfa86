use Rattle.std.proofs.Common.{rules}
use Rattle.phone_pattern.proofs.Refused.{refused_at}
use Rattle.phone_pattern.proofs.pool.Pool.patterns.Goals as goal

pub returns-in_err-pattern_of-clause-refused : goal.returns-in_err-pattern_of-clause-refused
returns-in_err-pattern_of-clause-refused c =
    let h = refused_at c.args.texts.now c.loop-text.text-index c.text-item.result c.in_err-pattern_of.field-0.0 c.loop-text-test.true c.text-item.is c.loop-text.invariant.1 c.in_err-pattern_of.ensures.refused in
    search (rules, h)
