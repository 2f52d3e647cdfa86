use Rattle.std.proofs.Common.{rules, ◌≡◌, ℕ, suc, ◌+◌, false, true, None, [], ◌∷◌, ◌++◌, chars, append_assoc, append-nil, ap, sym, subst, ◌∙◌, refl, arith}
use Rattle.phone_matches_text.proofs.Ends.{before_end_front, end_if, end_of_end}
use Rattle.phone_matches_text.specs.Sets.{is_in}
use Rattle.phone_matches_text.specs.Candidates.{after_groups}
use Rattle.phone_matches_text.specs.Extensions.{after_perhaps_extension}
use Rattle.phone_matches_text.proofs.candidates.after_candidate.Goals as goal

pub returns-clause-rest : goal.returns-clause-rest
returns-clause-rest c =
    c.after_perhaps_extension.ensures.rest
    ∙ ap after_perhaps_extension (c.after_groups-groups.ensures.rest ∙ ap (after_groups 20) c.after_first_digits-digits.ensures.rest)

pub returns-clause-end : goal.returns-clause-end
returns-clause-end c =
    end_of_end _ _ _ (end_of_end _ _ _ c.after_first_digits-digits.ensures.end c.after_groups-groups.ensures.end) c.after_perhaps_extension.ensures.end
