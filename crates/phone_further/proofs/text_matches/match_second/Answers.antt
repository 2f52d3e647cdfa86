use Rattle.std.proofs.Common.{chars, refl}
use Rattle.phone_further.specs.TextMatches.{IsBare, match_read}
use Rattle.phone_further.proofs.TextReads.{matched_so, unmatched_so}
use Rattle.phone_further.proofs.text_matches.match_second.Goals as goal

pub returns-in-Ok : goal.returns-in-Ok
returns-in-Ok g c =
    matched_so (IsBare (chars c.args.text.now)) (match_read (g.L.Likeness.like c.args.likeness.now) c.args.number.now) c.in-Ok.read c.match_numbers.result
    c.in-Ok.ensures c.match_numbers.ensures

pub returns-in-Err : goal.returns-in-Err
returns-in-Err g c =
    unmatched_so (IsBare (chars c.args.text.now)) (match_read (g.L.Likeness.like c.args.likeness.now) c.args.number.now) c.in-Err.error
    c.not_a_number.result refl c.in-Err.ensures c.not_a_number.ensures.number c.not_a_number.ensures.memory
