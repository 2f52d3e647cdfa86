use Rattle.std.proofs.Common.{rules, arith, chars, ap, sym, ◌∙◌}
use Rattle.std.proofs.lemmas.Str.{chars-nil}
use Rattle.phone_chars.specs.Cuts.{after_front}
use Rattle.phone_matches.proofs.Grouped.{is_other, other_passed, other_stays}
use Rattle.phone_matches.proofs.runs.from_member.Goals as goal

pub returns-then-has-clause-read : goal.returns-then-has-clause-read
returns-then-has-clause-read g c =
    let p = g.S.CharSet.members c.args.set.now in
    let read = c.in-Some.ensures.read in
    sym (c.loop-c.invariant.1 ∙ ap (after_front (is_other p)) read ∙ other_stays p _ _ (sym c.has.ensures ∙ c.if-has.true) ∙ sym read)

pub loop-c-preserved : goal.loop-c-preserved
loop-c-preserved g c =
    let p = g.S.CharSet.members c.args.set.now in
    let read = c.in-Some.ensures.read in
    let shorter = c.in-Some.ensures.shorter in (
      search rules,
      c.loop-c.invariant.1 ∙ ap (after_front (is_other p)) read ∙ other_passed p _ _ (sym c.has.ensures ∙ c.if-has.false),
      omega (arith, c.loop-c.invariant.2, shorter),
    )

pub returns-clause-read : goal.returns-clause-read
returns-clause-read g c =
    let p = g.S.CharSet.members c.args.set.now in
    let nothing = ap chars c.in_default.ensures.cut ∙ chars-nil in
    nothing ∙ sym (c.loop-c.invariant.1 ∙ ap (after_front (is_other p)) nothing)
