use Rattle.std.proofs.Common.{rules, ◌≡◌, ℕ, suc, ◌+◌, false, true, None, [], ◌∷◌, ◌++◌, chars, encode_utf8, append_assoc, append-nil, ap, sym, subst, ◌∙◌, refl, arith}
use Rattle.std.proofs.lemmas.Str.{chars-nil}
use Rattle.phone_matches_text.proofs.Ends.{before_end_front, end_if, end_of_end}
use Rattle.phone_matches_text.specs.Sets.{is_in}
use Rattle.phone_matches_text.proofs.extension.after_dashed.Goals as goal

pub returns-clause-end : goal.returns-clause-end
returns-clause-end c =
    end_if _ _ _ (end_of_end _ _ _ c.after_run-digits.ensures.end c.in_ok-rest.ensures.end) c.after_number_sign.ensures.end
