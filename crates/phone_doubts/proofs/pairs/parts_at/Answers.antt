use Rattle.std.proofs.Common.{chars, sym}
use Rattle.phone_doubts.specs.Valid.{before_end}
use Rattle.phone_doubts.proofs.Parting.{before_end-is, found_so}
use Rattle.phone_doubts.proofs.pairs.parts_at.Goals as goal

pub returns-in-Some : goal.returns-in-Some
returns-in-Some c =
    let engine = c.args.engine in
    let text = chars c.args.text.now in
    let rest = chars c.args.rest.now in
    let first = c.before-in-Some.result.now in
    found_so engine.rules engine.database.now engine.hint (before_end text rest) rest first c.in-Some.second.now
    (sym (before_end-is text (chars first) rest (c.before-in-Some.ensures.read c.requires)))
    c.in-Some.ensures c.where_numbers.result c.where_numbers.ensures
