use Rattle.std.proofs.Common.{chars}
use Rattle.phone_places.proofs.Tokens.{read_so, refused_so}
use Rattle.phone_places.proofs.areas.read_in_argentina.Goals as goal

pub returns-in-Ok : goal.returns-in-Ok
returns-in-Ok c = read_so c.args.database.now (chars c.args.text.now) c.in-Ok.number c.in-Ok.ensures

pub returns-in-Err : goal.returns-in-Err
returns-in-Err c =
    refused_so c.args.database.now (chars c.args.text.now) c.in-Err.error c.unless_memory.result c.in-Err.ensures
    c.unless_memory.ensures.none c.unless_memory.ensures.memory
