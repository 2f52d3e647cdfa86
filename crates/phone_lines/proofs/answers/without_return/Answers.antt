use Rattle.phone_lines.proofs.LineLemmas.{without_return-cut, without_return-kept}
use Rattle.phone_lines.proofs.answers.without_return.Goals as goal

pub returns-then-last-eq13 : goal.returns-then-last-eq13
returns-then-last-eq13 c = rw (c.in-Some.ensures.cases.0, c.if-last-eq13.true) (without_return-cut _)

pub returns-else-last-eq13 : goal.returns-else-last-eq13
returns-else-last-eq13 c = rw c.in-Some.ensures.cases.0 (without_return-kept _ _ c.if-last-eq13.false)
