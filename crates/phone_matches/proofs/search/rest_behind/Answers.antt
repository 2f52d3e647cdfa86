use Rattle.std.proofs.Common.{◌++◌, chars, append_assoc, sym, ◌∙◌}
use Rattle.phone_matches.proofs.Seams.{candidate_rest, end_of_end, shorter_front}
use Rattle.phone_matches.proofs.search.rest_behind.Goals as goal

pub returns-in-Some-clause-end : goal.returns-in-Some-clause-end
returns-in-Some-clause-end g c =
    let p = c.in-Some.found.place in
    (p.before.now ++ p.text.now, c.behind_place.ensures.whole ∙ sym (append_assoc p.before.now p.text.now _))

pub returns-in-None-clause-read : goal.returns-in-None-clause-read
returns-in-None-clause-read g c =
    rw c.in-None.is (candidate_rest (chars c.args.text.now) _ (chars c.args.from.now) (chars c.args.candidate.now) _ (c.before-front.ensures.read c.requires.end)
    c.behind.ensures.read)

pub returns-in-None-clause-end : goal.returns-in-None-clause-end
returns-in-None-clause-end g c = end_of_end _ _ _ c.requires.end (c.args.candidate.now, c.behind.ensures.whole)

pub returns-in-None-clause-shorter : goal.returns-in-None-clause-shorter
returns-in-None-clause-shorter g c = shorter_front _ _ _ c.behind.ensures.whole c.requires.some
