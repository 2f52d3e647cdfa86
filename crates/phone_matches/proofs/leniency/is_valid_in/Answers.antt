use Rattle.std.proofs.Common.{chars, sym, ◌∙◌, true≢false}
use Rattle.phone_matches.proofs.Sufficing.{bad_marks, if_valid}
use Rattle.phone_matches.proofs.leniency.is_valid_in.Goals as goal

pub returns-then-not-branch-2 : goal.returns-then-not-branch-2
returns-then-not-branch-2 c =
    bad_marks c.args.db.now c.args.number.now (chars c.args.text.now) (λ h. true≢false (sym (c.in_ok-has_good_marks.ensures.1 h) ∙ c.if-not-branch-2.true))

pub returns : goal.returns
returns c =
    if_valid c.args.db.now c.args.number.now (chars c.args.text.now) (sym c.in_ok-is_valid.ensures ∙ c.if-not-branch.false)
    (c.in_ok-has_good_marks.ensures.0 c.if-not-branch-2.false) c.has_prefix.result c.has_prefix.ensures
