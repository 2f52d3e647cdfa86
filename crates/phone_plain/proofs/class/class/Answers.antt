use Rattle.phone_plain.proofs.Classing.{class_read}
use Rattle.phone_plain.proofs.class.class.Goals as goal

pub returns : goal.returns
returns c =
    let first = c.in_ok-digit in
    let all = c.in_ok-ranges in
    class_read first.field-0.0 first.field-0.1.now c.args.text.now all.end.now c.in_ok-rest.rest.now all.ranges.items c.in_ok-class_of.field-0
    all.ensures first.ensures.is first.ensures.low first.ensures.high c.in_ok-rest.ensures c.in_ok-class_of.ensures
