use Rattle.std.proofs.Common.{rules, ◌≡◌, ℕ, suc, ◌+◌, false, true, None, [], ◌∷◌, ◌++◌, chars, append_assoc, append-nil, ap, sym, subst, ◌∙◌, refl, arith}
use Rattle.phone_matches_text.proofs.Ends.{before_end_front, end_if, end_of_end}
use Rattle.phone_matches_text.specs.Sets.{is_in}
use Rattle.phone_matches_text.specs.Told.{told}
use Rattle.phone_matches_text.proofs.Labels.{labelled_sign, labelled_word}
use Rattle.phone_matches_text.proofs.extension.after_labelled.Goals as goal

pub returns-in-Some-clause-rest : goal.returns-in-Some-clause-rest
returns-in-Some-clause-rest c = labelled_word (chars c.args.text.now) (chars c.after_run-label.result.now) (chars c.in-Some.rest.now) c.after_run-label.ensures.rest c.in-Some.ensures.rest

pub returns-in-Some-clause-end : goal.returns-in-Some-clause-end
returns-in-Some-clause-end c = end_of_end _ _ _ c.after_run-label.ensures.end c.in-Some.ensures.end

pub returns-in-None-clause-rest : goal.returns-in-None-clause-rest
returns-in-None-clause-rest c = labelled_sign (chars c.args.text.now) (chars c.after_run-label.result.now) (told c.after_sign.result) c.after_run-label.ensures.rest c.in-None.ensures.rest c.after_sign.ensures.rest

pub returns-in-None-clause-end : goal.returns-in-None-clause-end
returns-in-None-clause-end c = end_if _ _ _ c.after_run-label.ensures.end c.after_sign.ensures.end
