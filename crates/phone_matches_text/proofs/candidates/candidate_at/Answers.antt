use Rattle.std.proofs.Common.{rules, ◌≡◌, ℕ, suc, ◌+◌, false, true, None, [], ◌∷◌, ◌++◌, chars, encode_utf8, append_assoc, append-nil, ap, sym, subst, ◌∙◌, refl, arith}
use Rattle.std.proofs.lemmas.Str.{chars-nil}
use Rattle.phone_matches_text.proofs.Ends.{before_end_front, end_if, end_of_end}
use Rattle.phone_matches_text.specs.Sets.{is_in}
use Rattle.std.proofs.lemmas.List.{append_cancel_right}
use Rattle.phone_matches_text.specs.Candidates.{candidate_at}
use Rattle.phone_matches_text.proofs.candidates.candidate_at.Goals as goal

pub returns-clause-read : goal.returns-clause-read
returns-clause-read c =
    let x = c.in-Some.first in
    let body = c.behind_first-body.result.now in
    let last = c.behind-last.result.now in
    let end = end_of_end _ _ _ c.in-Some.ensures.end (body, c.behind-last.ensures.whole) in
    append_cancel_right (chars c.before-2.result.now) (x ∷ chars body) (chars last)
    (sym (c.before-2.ensures.read end) ∙ c.in-Some.ensures.read ∙ ap (λ t. x ∷ t) c.behind-last.ensures.read)
    ∙ ap (λ t. x ∷ t) c.behind_first-body.ensures.read ∙ sym (ap candidate_at c.in-Some.ensures.read)
