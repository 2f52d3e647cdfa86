use Rattle.std.proofs.Common.{chars, refl}
use Rattle.phone_read.proofs.Results.{ok_again}
use Rattle.phone_further.specs.TextMatches.{IsBeside, match_read}
use Rattle.phone_further.proofs.TextReads.{is_written, refused_beside, unmatched_so}
use Rattle.phone_further.proofs.text_matches.match_again.Goals as goal

pub returns-in-Ok : goal.returns-in-Ok
returns-in-Ok g c =
    let t = chars c.args.text.now in
    ok_again c.match_beside.result _ _ (λ k f. f t (is_written t c.in-Ok.written c.in-Ok.ensures)) c.match_beside.ensures

pub returns-in-Err : goal.returns-in-Err
returns-in-Err g c =
    let db = c.args.database.now in
    let t = chars c.args.text.now in
    let n = c.args.number.now in
    let error = c.in-Err.error in
    unmatched_so (IsBeside db n.code.value t) (match_read (g.L.Likeness.guessed c.args.likeness.now) n) error c.not_a_number.result refl
    (refused_beside t error db n.code.value c.in-Err.ensures) c.not_a_number.ensures.number c.not_a_number.ensures.memory
