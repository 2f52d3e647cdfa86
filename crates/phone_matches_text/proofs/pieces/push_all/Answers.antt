use Rattle.std.proofs.Common.{rules, ◌≡◌, ℕ, suc, ◌+◌, false, true, None, [], ◌∷◌, ◌++◌, chars, encode_utf8, append_assoc, append-nil, ap, sym, subst, ◌∙◌, refl, arith}
use Rattle.std.proofs.lemmas.Str.{chars-nil}
use Rattle.phone_matches_text.proofs.Ends.{before_end_front, end_if, end_of_end}
use Rattle.phone_matches_text.specs.Sets.{is_in}
use Rattle.phone_matches_text.proofs.Pieced.{each_end, each_more}
use Rattle.phone_matches_text.specs.Lent.{told_pieces}
use Rattle.phone_matches_text.proofs.pieces.push_all.Goals as goal

pub loop-sign-init : goal.loop-sign-init
loop-sign-init c = (([], sym (append-nil _), λ more h. h), λ h. h)

pub loop-sign-preserved : goal.loop-sign-preserved
loop-sign-preserved c =
    let i = c.loop-sign.invariant.0 in
    let by = c.in_ok-push_pieces.ensures.told in (
      (
        i.0 ++ by.0,
        by.2 ∙ ap (λ t. t ++ by.0) i.1 ∙ append_assoc _ i.0 by.0,
        each_more (chars c.args.text.now) c.args.signs.now c.loop-sign.sign-index _ _ i.0 by.0 i.2 c.loop-sign-test.true (omega arith) by.1,
      ),
      λ h. c.in_ok-push_pieces.ensures.stand (c.loop-sign.invariant.1 h),
    )

pub returns-clause-told : goal.returns-clause-told
returns-clause-told c =
    let i = c.loop-sign.invariant.0 in
    (i.0, each_end (chars c.args.text.now) c.args.signs.now c.loop-sign.sign-index i.0 i.2 (omega (arith, c.loop-sign-test.false)), i.1)

pub returns-clause-stand : goal.returns-clause-stand
returns-clause-stand c = c.loop-sign.invariant.1
