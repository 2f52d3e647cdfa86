use Rattle.std.proofs.Common.{rules, ◌≡◌, ℕ, suc, ◌+◌, false, true, None, [], ◌∷◌, ◌++◌, chars, encode_utf8, append_assoc, append-nil, ap, sym, subst, ◌∙◌, refl, arith}
use Rattle.std.proofs.lemmas.Str.{chars-nil}
use Rattle.phone_matches_text.proofs.Ends.{before_end_front, end_if, end_of_end}
use Rattle.phone_matches_text.specs.Sets.{is_in}
use Rattle.phone_matches_text.proofs.Labels.{labels_at, labels_more, labels_none}
use Rattle.phone_matches_text.proofs.extension.after_some_label.Goals as goal

pub returns-in-Some-clause-rest : goal.returns-in-Some-clause-rest
returns-in-Some-clause-rest c =
    sym (labels_at c.args.most (chars c.args.text.now) _ c.args.labels.now c.loop-label.label-index _ c.loop-label-test.true
    c.loop-label.invariant (sym c.in-Some.ensures.rest))

pub loop-label-preserved : goal.loop-label-preserved
loop-label-preserved c =
    labels_more c.args.most (chars c.args.text.now) c.args.labels.now c.loop-label.label-index _ _ (omega arith)
    c.loop-label.invariant (sym c.in_default.ensures.rest)

pub returns-clause-rest : goal.returns-clause-rest
returns-clause-rest c =
    sym (labels_none c.args.most (chars c.args.text.now) c.args.labels.now c.loop-label.label-index (omega (arith, c.loop-label-test.false))
    c.loop-label.invariant)
