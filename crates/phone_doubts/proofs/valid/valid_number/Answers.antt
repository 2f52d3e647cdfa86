use Rattle.std.proofs.Common.{chars}
use Rattle.phone_doubts.proofs.Told.{if_told, if_unread, read_number}
use Rattle.phone_doubts.proofs.valid.valid_number.Goals as goal

pub returns-in-Ok : goal.returns-in-Ok
returns-in-Ok c =
    let by = c.args.engine.rules in
    let db = c.args.engine.database.now in
    let hint = c.args.engine.hint in
    let t = chars c.args.text.now in
    let n = c.in-Ok.number in
    if_told by db hint t n (read_number by db hint t c.parse.result n c.in-Ok.is c.parse.ensures)
    c.where_valid.result c.where_valid.ensures

pub returns-in-Err : goal.returns-in-Err
returns-in-Err c =
    let engine = c.args.engine in
    if_unread engine.rules engine.database.now engine.hint (chars c.args.text.now)
    c.parse.result c.in-Err.error c.in-Err.is c.parse.ensures c.without_number.result
    c.without_number.ensures
