use Rattle.std.specs.Option.{option_copied}
use Rattle.phone_doubts.proofs.Reasons.{iff_ok, zero_lost}
use Rattle.phone_doubts.proofs.answer.says_zero_lost.Goals as goal

pub returns-then-branch : goal.returns-then-branch
returns-then-branch c =
    let engine = c.args.engine in
    iff_ok _ _
    (zero_lost engine.rules engine.database.now engine.hint c.args.text.now (option_copied c.args.number) c.in-Some.region c.in-Some.is
    (c.in_ok-is_not_valid.ensures.0 c.if-branch.true))
    c.lacks_zero.result c.lacks_zero.ensures
