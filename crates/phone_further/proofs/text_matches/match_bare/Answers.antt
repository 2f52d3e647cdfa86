use Rattle.std.proofs.Common.{chars}
use Rattle.phone_further.proofs.TextReads.{bare_refused_so, bare_so}
use Rattle.phone_further.proofs.text_matches.match_bare.Goals as goal

pub returns-in-Ok : goal.returns-in-Ok
returns-in-Ok g c =
    let like = g.L.Likeness.like c.args.likeness.now in
    bare_so like c.args.first (chars c.args.b.now) c.in-Ok.number c.match_second.result c.in-Ok.ensures c.match_second.ensures

pub returns-in-Err : goal.returns-in-Err
returns-in-Err g c =
    let like = g.L.Likeness.like c.args.likeness.now in
    bare_refused_so like c.args.first (chars c.args.b.now) c.in-Err.error c.not_a_number.result c.in-Err.ensures c.not_a_number.ensures.number
