use Rattle.std.proofs.Common.{chars, ap, sym, ◌∙◌}
use Rattle.std.proofs.lemmas.Str.{chars-nil}
use Rattle.phone_matches.proofs.Announced.{announced_last, announced_mark, announced_other}
use Rattle.phone_matches.proofs.marks.mark_at.Goals as goal

pub returns-in_default-clause-read : goal.returns-in_default-clause-read
returns-in_default-clause-read c = announced_last c.args.c (chars c.args.after.now) (ap chars c.in_default.ensures.cut ∙ chars-nil)

pub returns-then-not-is_x-clause-read : goal.returns-then-not-is_x-clause-read
returns-then-not-is_x-clause-read c =
    announced_other c.args.c _ (chars c.args.after.now) _ c.in-Some.ensures.read (sym c.is_x.ensures ∙ c.if-not-is_x.true)

pub returns-clause-read : goal.returns-clause-read
returns-clause-read c =
    announced_mark c.args.c _ c.args.after.now _ _ _ _ c.in-Some.ensures.read (sym c.is_x.ensures ∙ c.if-not-is_x.false) c.mark_before.ensures.double
    c.mark_before.ensures.announced c.mark_before.ensures.rest
