use Rattle.std.proofs.Common.{◌↔◌, IfOk, IsTrue}
use Rattle.phone_doubts.specs.Doubts.{IsDoubt}
use Rattle.phone_doubts.specs.declared.doubt.Doubt.TheVariants as doubt
use Rattle.phone_doubts.proofs.Reasons.{elsewhere, iff_ok, of_lent}
use Rattle.phone_doubts.proofs.answer.says_other_region.Goals as goal

pub returns-in-Some-Some : goal.returns-in-Some-Some
returns-in-Some-Some c = λ t.
    let engine = c.args.engine in
    let n = c.in-Some-Some.number in
    of_lent (λ number. IfOk c.is_elsewhere.result (λ says. IsTrue says ↔ IsDoubt engine.rules engine.database.now engine.hint t number doubt.OtherRegion))
    c.args.number n c.in-Some-Some.is-1
    (iff_ok _ _ (elsewhere engine.rules engine.database.now engine.hint t n.now c.in-Some-Some.hint c.in-Some-Some.is-0)
    c.is_elsewhere.result c.is_elsewhere.ensures)
