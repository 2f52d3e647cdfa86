use Rattle.std.proofs.Common.{None, chars}
use Rattle.phone_further.proofs.TextReads.{is_written, other_refusal, refused_reads, unlisted_first_so, unlisted_refused_so}
use Rattle.phone_further.proofs.text_matches.match_unlisted.Goals as goal

pub returns-in-Ok : goal.returns-in-Ok
returns-in-Ok g c =
    let like = g.L.Likeness.like c.args.likeness.now in
    let guessed = g.L.Likeness.guessed c.args.likeness.now in
    let t = chars c.args.a.now in
    unlisted_first_so like guessed c.args.database.now t (chars c.args.b.now) c.in-Ok.first c.match_uncoded.result (is_written t c.in-Ok.first c.in-Ok.ensures)
    c.match_uncoded.ensures

pub returns-in-Err : goal.returns-in-Err
returns-in-Err g c =
    let like = g.L.Likeness.like c.args.likeness.now in
    let guessed = g.L.Likeness.guessed c.args.likeness.now in
    let db = c.args.database.now in
    let t = chars c.args.a.now in
    let error = c.in-Err.error in
    unlisted_refused_so like guessed db t (chars c.args.b.now) error c.not_a_number.result (other_refusal t error c.in-Err.ensures)
    (refused_reads t error db None c.in-Err.ensures) c.not_a_number.ensures.number c.not_a_number.ensures.memory
