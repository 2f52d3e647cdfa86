use Rattle.std.proofs.Math.Nat.{sub-zero}
use Rattle.phone_find.proofs.Begins.{none_begins}
use Rattle.phone_find.proofs.numbers.SufficientJudgePhoneNumber.may_begin.Goals as goal

pub returns : goal.returns
returns c refused f s e =
    none_begins c.args.text.now c.args.start c.may_begin.result c.utf8.text
    (rw (c.range.ensures.value, c.range_from.ensures.value, sub-zero) at c.may_begin.ensures)
    refused f.start f.end s.some s.from_border s.to_border
    s.accepted.candidate e
