use Rattle.std.proofs.Common.{chars, ◌∙◌}
use Rattle.phone_doubts.proofs.Signed.{signed_so}
use Rattle.phone_doubts.proofs.Told.{told_some}
use Rattle.phone_doubts.proofs.fronts.is_read_signed.Goals as goal

pub returns-in-Some : goal.returns-in-Some
returns-in-Some c =
    let engine = c.args.engine in
    let whole = c.as_str.result.now in
    signed_so engine.rules engine.database.now engine.hint c.args.text.now whole
    (c.as_str.ensures.value ∙ c.in_ok-signed.ensures) c.args.number.now c.in-Some.other
    (told_some engine.rules engine.database.now engine.hint (chars whole) c.in_ok-other.field-0 c.in-Some.other c.in-Some.is c.in_ok-other.ensures)
    c.is_other_of_code.result c.is_other_of_code.ensures
