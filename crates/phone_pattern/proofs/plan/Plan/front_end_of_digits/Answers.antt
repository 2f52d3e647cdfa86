use Rattle.std.proofs.Common.{subst}
use Rattle.phone_pattern.specs.Outlines.{TellsOf}
use Rattle.phone_pattern.proofs.ReadTexts.{if_told}
use Rattle.phone_pattern.proofs.plan.Plan.front_end_of_digits.Goals as goal

pub returns-in-Some-clause-end : goal.returns-in-Some-clause-end
returns-in-Some-clause-end c =
    let told = subst (λ p. TellsOf p c.in-Some.table) c.self.view_is (rw c.in-Some.is at c.self.invariant.2) in
    let found = c.front_end_of_digits.ensures in
    if_told c.args.self.now c.in-Some.table told c.as_bytes.result.now c.args.text.now c.as_bytes.ensures.value c.front_end_of_digits.result found.end found.digits
