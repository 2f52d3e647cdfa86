use Rattle.std.proofs.Common.{subst, sym, ap, ◌∙◌}
use Rattle.phone_automaton.specs.Digits.{AreDigits}
use Rattle.phone_pattern.specs.First.{front_end}
use Rattle.phone_pattern.specs.Outlines.{TellsOf}
use Rattle.phone_pattern.proofs.ReadTexts.{front_told}
use Rattle.phone_pattern.proofs.plan.Plan.end_in_digits.Goals as goal

pub returns-in-Some : goal.returns-in-Some
returns-in-Some c =
    let told = subst (λ p. TellsOf p c.in-Some.table) c.self.view_is (rw c.in-Some.is at c.self.invariant.2) in
    let same = c.as_bytes.ensures.value in
    c.end_in_digits.ensures.end
    ∙ front_told c.args.self.now c.in-Some.table told c.as_bytes.result.now (subst AreDigits (sym same) c.requires)
    ∙ ap (front_end c.args.self.now) same
