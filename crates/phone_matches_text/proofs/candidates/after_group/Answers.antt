use Rattle.std.proofs.Common.{rules, ◌≡◌, ℕ, suc, ◌+◌, false, true, None, [], ◌∷◌, ◌++◌, chars, encode_utf8, append_assoc, append-nil, ap, sym, subst, ◌∙◌, refl, arith}
use Rattle.std.proofs.lemmas.Str.{chars-nil}
use Rattle.phone_matches_text.proofs.Ends.{before_end_front, end_if, end_of_end}
use Rattle.phone_matches_text.specs.Sets.{is_in}
use Rattle.phone_matches_text.proofs.candidates.after_group.Goals as goal

pub returns-then-passes-clause-end : goal.returns-then-passes-clause-end
returns-then-passes-clause-end c = end_of_end _ _ _ c.after_few-group.ensures.end c.after_few.ensures.end
