use Rattle.std.proofs.Common.{◌↔◌, IfOk, IsTrue}
use Rattle.phone_doubts.specs.Doubts.{IsDoubt}
use Rattle.phone_doubts.specs.declared.doubt.Doubt.TheVariants as doubt
use Rattle.phone_doubts.proofs.Reasons.{iff_ok, no_plus, of_lent}
use Rattle.phone_doubts.proofs.answer.says_no_plus.Goals as goal

pub returns-in-Some : goal.returns-in-Some
returns-in-Some c =
    let engine = c.args.engine in
    let n = c.in-Some.number in
    of_lent (λ number. IfOk c.lacks_plus.result (λ says. IsTrue says ↔ IsDoubt engine.rules engine.database.now engine.hint c.args.text.now number doubt.NoPlus))
    c.args.number n c.in-Some.is
    (iff_ok _ _ (no_plus engine.rules engine.database.now engine.hint c.args.text.now n.now) c.lacks_plus.result c.lacks_plus.ensures)
