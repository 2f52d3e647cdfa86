use Rattle.std.proofs.Common.{subst, ◌∙◌}
use Rattle.phone_pattern.specs.Outlines.{TellsOf}
use Rattle.phone_pattern.proofs.ReadTexts.{front_told, replace_told}
use Rattle.phone_pattern.proofs.plan.Plan.replace_at_front.Goals as goal

pub replace_at_front-requires-clause-end : goal.replace_at_front-requires-clause-end
replace_at_front-requires-clause-end c =
    let told = subst (λ p. TellsOf p c.in-Some.table) c.self.view_is (rw c.in-Some.is at c.self.invariant.2) in
    front_told c.args.self.now c.in-Some.table told c.args.text.now c.requires.digits ∙ c.requires.end

pub returns-in-Some : goal.returns-in-Some
returns-in-Some c =
    let told = subst (λ p. TellsOf p c.in-Some.table) c.self.view_is (rw c.in-Some.is at c.self.invariant.2) in
    replace_told c.args.self.now c.args.template.now c.args.text.now c.in-Some.table told c.requires.digits c.replace_at_front.result c.replace_at_front.ensures
