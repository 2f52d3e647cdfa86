use Rattle.std.proofs.Common.{◌↔◌, IfOk, IsTrue}
use Rattle.phone_doubts.specs.Doubts.{IsDoubt}
use Rattle.phone_doubts.specs.Fronts.{has_zero_in_brackets}
use Rattle.phone_doubts.specs.declared.doubt.Doubt.TheVariants as doubt
use Rattle.phone_doubts.proofs.Reasons.{brackets, eq_ok, iff_ok, of_lent}
use Rattle.phone_doubts.proofs.answer.says_zero_in_brackets.Goals as goal

pub returns-in-Some : goal.returns-in-Some
returns-in-Some c =
    let engine = c.args.engine in
    let n = c.in-Some.number in
    of_lent (λ number. IfOk c.has_zero_in_brackets.result (λ says. IsTrue says ↔ IsDoubt engine.rules engine.database.now engine.hint c.args.text.now number doubt.ZeroInBrackets))
    c.args.number n c.in-Some.is
    (iff_ok _ _ (brackets engine.rules engine.database.now engine.hint c.args.text.now n.now) c.has_zero_in_brackets.result
    (eq_ok (has_zero_in_brackets n.now.code.value c.args.text.now) c.has_zero_in_brackets.result c.has_zero_in_brackets.ensures))
