use Rattle.std.proofs.Common.{chars, ◌++◌, ◌∙◌}
use Rattle.phone_doubts.proofs.Signed.{dialled_so}
use Rattle.phone_doubts.proofs.Told.{told_some}
use Rattle.phone_doubts.proofs.fronts.is_dialled_by_hint.Goals as goal

pub returns-in-Some : goal.returns-in-Some
returns-in-Some c =
    let engine = c.args.engine in
    let whole = c.as_str.result.now in
    dialled_so engine.rules engine.database.now engine.hint (c.args.front.now ++ c.args.text.now) whole
    (c.as_str.ensures.value ∙ c.in_ok-whole.ensures) c.in-Some.number
    (told_some engine.rules engine.database.now engine.hint (chars whole) c.in_ok-number.field-0 c.in-Some.number c.in-Some.is c.in_ok-number.ensures)
    c.is_by_hint.result c.is_by_hint.ensures
