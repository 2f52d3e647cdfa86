use Rattle.std.proofs.Common.{chars, arith}
use Rattle.phone_questions.proofs.GroupLengths.{groups_within}
use Rattle.phone_questions.proofs.groups.both.Goals as goal

pub overflow_add-result : goal.overflow_add-result
overflow_add-result c =
    let small = c.count-all.type_inv in
    let all = c.count-all.ensures in
    let first = c.requires.first in
    let second = c.requires.second in
    let within = groups_within (chars c.args.text.now) in
    omega arith
