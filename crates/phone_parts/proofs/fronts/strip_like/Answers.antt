use Rattle.std.proofs.Common.{rules, ◌++◌, encode_utf8, append_assoc, ap, sym, ◌∙◌}
use Rattle.std.proofs.lemmas.Str.{chars-nil}
use Rattle.std.specs.Str.{chars}
use Rattle.phone_parts.specs.Texts.{after_like}
use Rattle.phone_parts.proofs.fronts.strip_like.Goals as goal

pub returns-in_err-c-clause-read : goal.returns-in_err-c-clause-read
returns-in_err-c-clause-read c =
    rw c.from_residual.ensures (c.loop-w.invariant.3 ∙ rw (c.in-Some.ensures.read, c.in_err-c.ensures.cut, chars-nil))

pub returns-then-not-same_fold-clause-read : goal.returns-then-not-same_fold-clause-read
returns-then-not-same_fold-clause-read c =
    c.loop-w.invariant.3 ∙ rw (c.in-Some.ensures.read, c.in_ok-c.ensures.read, ← c.same_fold.ensures, c.if-not-same_fold.true)

pub loop-w-preserved : goal.loop-w-preserved
loop-w-preserved c =
    let v = c.loop-w.invariant.2 in (
      search rules,
      search rules,
      (v.0 ++ encode_utf8 c.in_ok-c.c, rw (v.1, c.in_ok-c.ensures.cut) (sym (append_assoc v.0 _ _))),
      c.loop-w.invariant.3 ∙ rw (c.in-Some.ensures.read, c.in_ok-c.ensures.read, ← c.same_fold.ensures, c.if-not-same_fold.false),
    )

pub returns-clause-read : goal.returns-clause-read
returns-clause-read c =
    let rest = chars c.loop-w.rest.now in
    c.loop-w.invariant.3 ∙ ap (λ t. after_like rest (chars t)) c.in_default.ensures.cut ∙ ap (after_like rest) chars-nil
