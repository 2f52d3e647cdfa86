use Rattle.std.proofs.Common.{sym}
use Rattle.phone_values.proofs.Digits.{number_none, number_some}
use Rattle.phone_words.proofs.values.count_named.Goals as goal

pub returns-in-Ok : goal.returns-in-Ok
returns-in-Ok c = sym (number_some 64 c.args.word.now c.in-Ok.count c.in-Ok.ensures.value.0)

pub returns-in-Err : goal.returns-in-Err
returns-in-Err c = sym (number_none 64 c.args.word.now c.in-Err.ensures.value.0)
