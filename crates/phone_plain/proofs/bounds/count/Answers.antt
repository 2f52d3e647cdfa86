use Rattle.std.proofs.Common.{◌∙◌, sym}
use Rattle.phone_plain.proofs.Counting.{count_of_one, count_of_two}
use Rattle.phone_plain.proofs.bounds.count.Goals as goal

pub returns-then-ends_count : goal.returns-then-ends_count
returns-then-ends_count c =
    let a = c.in_ok-tens in
    count_of_one c.args.text.now a.after.now a.tens a.ensures.is a.ensures.low a.ensures.high (sym c.ends_count.ensures ∙ c.if-ends_count.true)

pub returns-then-ends_count-2 : goal.returns-then-ends_count-2
returns-then-ends_count-2 c =
    let a = c.in_ok-tens in
    let b = c.in_ok-ones in
    count_of_two c.args.text.now a.after.now b.end.now a.tens b.ones a.ensures.is b.ensures.is a.ensures.low a.ensures.high b.ensures.low b.ensures.high (sym c.ends_count-2.ensures ∙ c.if-ends_count-2.true)
