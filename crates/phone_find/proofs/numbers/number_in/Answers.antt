use Rattle.phone_find.proofs.Told.{if_told, if_unread, read_number}
use Rattle.phone_find.proofs.numbers.number_in.Goals as goal

pub returns-in-Ok : goal.returns-in-Ok
returns-in-Ok c =
    let by = c.args.engine.rules in
    let db = c.args.engine.database.now in
    let hint = c.args.engine.hint in
    let l = c.args.leniency in
    let t = c.args.text.now in
    let n = c.in-Ok.number in
    if_told by db hint l t n
    (read_number by db hint l t c.parse.result n c.in-Ok.is c.parse.ensures)
    c.where_sufficient.result c.where_sufficient.ensures

pub returns-in-Err : goal.returns-in-Err
returns-in-Err c =
    let engine = c.args.engine in
    if_unread engine.rules engine.database.now engine.hint c.args.leniency c.args.text.now
    c.parse.result c.in-Err.error c.in-Err.is c.parse.ensures c.without_number.result
    c.without_number.ensures
