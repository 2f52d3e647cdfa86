use Rattle.std.proofs.Common.{chars}
use Rattle.phone_further.proofs.TextReads.{is_written, other_refusal, refused_reads, refused_so}
use Rattle.std.specs.Prelude.{None}
use Rattle.phone_further.proofs.text_matches.match_text.Goals as goal

pub returns-in-Ok : goal.returns-in-Ok
returns-in-Ok g c = c.match_written.ensures (is_written (chars c.args.text.now) c.in-Ok.written c.in-Ok.ensures)

pub returns-in-Err : goal.returns-in-Err
returns-in-Err g c =
    let like = g.L.Likeness.like c.args.likeness.now in
    let guessed = g.L.Likeness.guessed c.args.likeness.now in
    let db = c.args.database.now in
    let t = chars c.args.text.now in
    let error = c.in-Err.error in
    refused_so like guessed db c.args.number.now t error c.not_a_number.result (other_refusal t error c.in-Err.ensures) (refused_reads t error db None c.in-Err.ensures)
    c.not_a_number.ensures.number c.not_a_number.ensures.memory
