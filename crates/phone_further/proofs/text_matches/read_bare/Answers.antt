use Rattle.std.proofs.Common.{Ok, Err, chars, refl}
use Rattle.phone_further.proofs.TextReads.{bare_written}
use Rattle.phone_further.proofs.text_matches.read_bare.Goals as goal

pub returns-in-Ok : goal.returns-in-Ok
returns-in-Ok c = bare_written (chars c.args.text.now) (Ok c.in-Ok.number) c.bare_number.result c.bare_number.ensures c.in-Ok.ensures

pub returns-in-Err : goal.returns-in-Err
returns-in-Err c = bare_written (chars c.args.text.now) (Err c.in-Err.error) (Err c.in-Err.error) refl c.in-Err.ensures
