use Rattle.std.proofs.Common.{chars}
use Rattle.phone_doubts.proofs.PairLaws.{numbers_read}
use Rattle.phone_doubts.proofs.pairs.two_numbers.Goals as goal

pub returns : goal.returns
returns c =
    let engine = c.args.engine in
    numbers_read engine.rules engine.database.now engine.hint (chars c.args.field.now) c.in_ok-found.found c.in_ok-found.ensures
    c.numbers_of.result c.numbers_of.ensures
