use Rattle.std.proofs.Common.{rules, chars, refl, sym, ◌∙◌, true≢false}
use Rattle.phone_matches.proofs.Announced.{good_both, good_first, good_none}
use Rattle.phone_matches.proofs.Same.{not_true}
use Rattle.phone_matches.specs.Marks.{HasGoodMarks}
use Rattle.phone_matches.proofs.marks.has_good_marks.Goals as goal

pub returns-then-not-branch : goal.returns-then-not-branch
returns-then-not-branch c =
    let db = c.args.db.now in
    let n = c.args.number.now in
    let m = c.in-Some.mark in
    not_true (HasGoodMarks db n (chars c.args.text.now)) (λ h.
    let first = good_first db n (chars c.loop-mark.rest.now) (chars m.announced.now) (chars m.rest.now) m.is_double c.in-Some.ensures.read
    (c.loop-mark.invariant.2 h) in
    true≢false (sym (c.in_ok-is_good.ensures.1 first.0) ∙ c.if-not-branch.true))

pub loop-mark-preserved : goal.loop-mark-preserved
loop-mark-preserved c =
    let db = c.args.db.now in
    let n = c.args.number.now in
    let m = c.in-Some.mark in
    let rest = chars c.loop-mark.rest.now in
    let good = c.in_ok-is_good.ensures.0 c.if-not-branch.false in (
      search rules,
      λ h. c.loop-mark.invariant.1 (good_both db n rest (chars m.announced.now) (chars m.rest.now) m.is_double c.in-Some.ensures.read good h),
      λ h. (good_first db n rest (chars m.announced.now) (chars m.rest.now) m.is_double c.in-Some.ensures.read (c.loop-mark.invariant.2 h)).1,
    )

pub returns : goal.returns
returns c =
    let all = good_none c.args.db.now c.args.number.now (chars c.loop-mark.rest.now) c.in_default.ensures.read in
    (λ yes. c.loop-mark.invariant.1 all, λ h. refl)
