use Rattle.std.proofs.Common.{◌↔◌, IfOk, IsTrue}
use Rattle.phone_doubts.specs.Doubts.{IsDoubt}
use Rattle.phone_doubts.specs.declared.doubt.Doubt.TheVariants as doubt
use Rattle.phone_doubts.proofs.Reasons.{iff_ok, letters, of_lent}
use Rattle.phone_doubts.proofs.answer.says_letters.Goals as goal

pub returns-in-Some : goal.returns-in-Some
returns-in-Some c =
    let engine = c.args.engine in
    let n = c.in-Some.field-0 in
    of_lent (λ number. IfOk c.has_letters.result (λ says. IsTrue says ↔ IsDoubt engine.rules engine.database.now engine.hint c.args.text.now number doubt.Letters))
    c.args.number n c.in-Some.is
    (iff_ok _ _ (letters engine.rules engine.database.now engine.hint c.args.text.now n.now) c.has_letters.result c.has_letters.ensures)
