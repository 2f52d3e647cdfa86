use Rattle.std.proofs.Common.{Err, ap}
use Rattle.phone_answers.proofs.SplitLemmas.{shown_by}
use Rattle.phone_answers.proofs.split.shown_of.Goals as goal

pub returns-in-Ok : goal.returns-in-Ok
returns-in-Ok c =
    let k = c.in-Ok.ensures.spelled in
    shown_by c.args.engine.rules c.args.engine.database.now c.args.number.now c.args.shown k.0 _ k.1 k.2 c.shown_in.result c.shown_in.ensures

pub unreachable-requires : goal.unreachable-requires
unreachable-requires c = c.requires (c.in-Err-UnknownCode.ensures.unknown (ap Err c.in-Err-UnknownCode.field-0-is))
