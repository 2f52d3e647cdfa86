use Rattle.std.proofs.Common.{rules}
use Rattle.phone_parts.proofs.Patterns.{strip-answers, stripped_one}
use Rattle.phone_parts.proofs.fronts.skip_one.Goals as goal

pub returns-clause-read : goal.returns-clause-read
returns-clause-read g c =
    rw c.unwrap_or.ensures (stripped_one (g.S.CharSet.members c.args.set.now) c.args.text c.strip_prefix.result
    (strip-answers _ _ _ _ _ c.utf8.text c.strip_prefix.ensures.cases (λ a r f k. search rules))).0

pub returns-clause-end : goal.returns-clause-end
returns-clause-end g c =
    rw c.unwrap_or.ensures (stripped_one (g.S.CharSet.members c.args.set.now) c.args.text c.strip_prefix.result
    (strip-answers _ _ _ _ _ c.utf8.text c.strip_prefix.ensures.cases (λ a r f k. search rules))).1
