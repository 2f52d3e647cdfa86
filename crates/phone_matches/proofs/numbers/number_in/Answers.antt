use Rattle.std.proofs.Common.{[], chars, unwrap_or}
use Rattle.std.specs.Option.{option_copied}
use Rattle.phone_matches.proofs.Told.{if_told, if_unread, read_number}
use Rattle.phone_matches.proofs.numbers.number_in.Goals as goal

pub returns-in-Ok : goal.returns-in-Ok
returns-in-Ok c =
    let db = c.args.db.now in
    let t = chars c.args.text.now in
    if_told c.one_reading.ensures db c.args.hint t (unwrap_or (option_copied c.args.alternates) []) c.args.leniency c.in-Ok.number
    (read_number c.one_reading.ensures db c.args.hint t c.parse.result c.in-Ok.number c.in-Ok.is c.parse.ensures)
    c.where_sufficient.result c.where_sufficient.ensures

pub returns-in-Err : goal.returns-in-Err
returns-in-Err c =
    if_unread c.one_reading.ensures c.args.db.now c.args.hint (chars c.args.text.now) (unwrap_or (option_copied c.args.alternates) []) c.args.leniency c.parse.result c.in-Err.error c.in-Err.is
    c.parse.ensures c.without_number.result c.without_number.ensures
