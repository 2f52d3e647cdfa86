use Rattle.std.proofs.Common.{rules, ◌++◌, encode_utf8, append_assoc, ap, sym, ◌∙◌}
use Rattle.std.proofs.lemmas.Str.{chars-nil}
use Rattle.std.specs.Str.{chars}
use Rattle.phone_library_text.specs.Scans.{after_alike}
use Rattle.phone_library_text.proofs.labels.strip_alike.Goals as goal

pub returns-in_err-c-clause-read : goal.returns-in_err-c-clause-read
returns-in_err-c-clause-read c =
    rw c.from_residual.ensures (c.loop-w.invariant.3 ∙ rw (c.in-Some.ensures.read, c.in_err-c.ensures.cut, chars-nil))

pub returns-then-not-same_folded-clause-read : goal.returns-then-not-same_folded-clause-read
returns-then-not-same_folded-clause-read c =
    c.loop-w.invariant.3 ∙ rw (c.in-Some.ensures.read, c.in_ok-c.ensures.read, ← c.same_folded.ensures, c.if-not-same_folded.true)

pub loop-w-preserved : goal.loop-w-preserved
loop-w-preserved c =
    let v = c.loop-w.invariant.2 in (
      search rules,
      search rules,
      (v.0 ++ encode_utf8 c.in_ok-c.c, rw (v.1, c.in_ok-c.ensures.cut) (sym (append_assoc v.0 _ _))),
      c.loop-w.invariant.3 ∙ rw (c.in-Some.ensures.read, c.in_ok-c.ensures.read, ← c.same_folded.ensures, c.if-not-same_folded.false),
    )

pub returns-clause-read : goal.returns-clause-read
returns-clause-read c =
    let rest = chars c.loop-w.rest.now in
    c.loop-w.invariant.3 ∙ ap (λ t. after_alike rest (chars t)) c.in_default.ensures.cut ∙ ap (after_alike rest) chars-nil
