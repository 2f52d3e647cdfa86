use Rattle.std.proofs.Common.{chars}
use Rattle.std.specs.Option.{option_copied}
use Rattle.phone_further.proofs.Read.{invalid_so, none_so}
use Rattle.phone_further.proofs.invalid.invalid_read.Goals as goal

pub returns-in-Ok : goal.returns-in-Ok
returns-in-Ok c =
    invalid_so c.args.database.now (option_copied c.args.territory) (chars c.args.text.now) c.in-Ok.number c.if_invalid.result c.in-Ok.ensures
    c.if_invalid.ensures

pub returns-in-Err : goal.returns-in-Err
returns-in-Err c =
    none_so c.args.database.now (option_copied c.args.territory) (chars c.args.text.now) c.in-Err.error c.none.result c.in-Err.ensures
    c.none.ensures.answer c.none.ensures.memory
