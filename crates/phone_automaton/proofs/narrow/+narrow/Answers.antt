use Rattle.std.proofs.Common.{take, sym}
use Rattle.std.proofs.lemmas.List.{take_more}
use Rattle.phone_automaton.proofs.Alike.{chars_kept, repetition_kept, capture_kept, grown}
use Rattle.phone_automaton.proofs.narrow.+narrow.Goals as goal

pub narrow_classes-returns-in_ok-cut-in-Chars : goal.narrow_classes-returns-in_ok-cut-in-Chars
narrow_classes-returns-in_ok-cut-in-Chars t c =
    rw c.in-Chars.is (chars_kept c.in_ok-cut-in-Chars.field-0 c.in-Chars.class c.in_ok-cut-in-Chars.ensures)

pub narrow_classes-returns-in_ok-new-in-Repetition : goal.narrow_classes-returns-in_ok-new-in-Repetition
narrow_classes-returns-in_ok-new-in-Repetition t c =
    let it = c.in-Repetition in
    rw it.is
    (repetition_kept it.min it.max it.greedy c.in_ok-new-in-Repetition.field-0 it.sub
    (rw c.in_ok-new-in-Repetition.ensures.ok (rw c.deref-in-Repetition.ensures at c.in_ok-narrow_classes-in-Repetition.ensures)))

pub narrow_classes-returns-in_ok-new-in-Capture : goal.narrow_classes-returns-in_ok-new-in-Capture
narrow_classes-returns-in_ok-new-in-Capture t c =
    let it = c.in-Capture in
    rw it.is
    (capture_kept it.index c.in_ok-new-in-Capture.field-0 it.sub
    (rw c.in_ok-new-in-Capture.ensures.ok (rw c.deref-in-Capture.ensures at c.in_ok-narrow_classes-in-Capture.ensures)))

pub narrow_each-loop-i-preserved : goal.narrow_each-loop-i-preserved
narrow_each-loop-i-preserved t c =
    let next = take_more c.args.subs.now c.loop-i.i c.index-subs-i.result c.loop-i-test.true in
    rw (c.in_ok-push.ensures.items, next, sym c.index-subs-i.is)
    (grown c.loop-i.all.items (take c.loop-i.i c.args.subs.now) c.in_ok-narrow_classes.field-0 c.index-subs-i.result c.loop-i.invariant c.in_ok-narrow_classes.ensures)
