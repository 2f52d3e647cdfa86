use Rattle.std.proofs.Common.{rules, ◌≡◌, ℕ, suc, ◌+◌, false, true, None, [], ◌∷◌, ◌++◌, chars, append_assoc, append-nil, ap, sym, subst, ◌∙◌, refl, arith}
use Rattle.phone_matches_text.proofs.Ends.{before_end_front, end_if, end_of_end}
use Rattle.phone_matches_text.specs.Sets.{is_in}
use Rattle.phone_matches_text.proofs.pieces.behind_hyphen.Goals as goal

pub returns-clause-end : goal.returns-clause-end
returns-clause-end c = end_of_end _ _ _ c.without_two-rest.ensures.end c.after_spaces.ensures.end
