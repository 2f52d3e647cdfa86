use Rattle.std.proofs.Common.{None, chars}
use Rattle.phone_further.proofs.TextReads.{first_refused_so, is_written, other_refusal, refused_reads}
use Rattle.phone_further.proofs.text_matches.match_texts.Goals as goal

pub returns-in-Ok : goal.returns-in-Ok
returns-in-Ok g c = c.match_first.ensures (is_written (chars c.args.a.now) c.in-Ok.first c.in-Ok.ensures)

pub returns-in-Err : goal.returns-in-Err
returns-in-Err g c =
    let like = g.L.Likeness.like c.args.likeness.now in
    let guessed = g.L.Likeness.guessed c.args.likeness.now in
    let db = c.args.database.now in
    let t = chars c.args.a.now in
    let error = c.in-Err.error in
    first_refused_so like guessed db t (chars c.args.b.now) error c.not_a_number.result (other_refusal t error c.in-Err.ensures)
    (refused_reads t error db None c.in-Err.ensures) c.not_a_number.ensures.number c.not_a_number.ensures.memory
