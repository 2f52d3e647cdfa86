use Rattle.std.proofs.Common.{Bool, true, false, subst}
use Rattle.regex_extract.specs.Frames.{Marks}
use Rattle.regex_hir.specs.Meaning.{meaning}
use Rattle.std.proofs.lemmas.Bool.{eq-eqb}
use Rattle.regex_hir.proofs.MeaningLemmas.{meaning-Bytes, meaning-Repetition}
use Rattle.regex_extract.proofs.SidesLemmas.{Marks-wider, Marks-open, Marks-upto, Marks-more, Marks-whole, Marks-none, Marks-branch, Marks-repeat, Marks-byte_in}
use Rattle.phone_automaton.proofs.fronts.+mark.Goals.{mark_choice-then-mark, mark_choice-else-mark}
use Rattle.phone_automaton.proofs.fronts.+mark.Goals as goal

pub mark-returns-in-Bytes-clause-marks : goal.mark-returns-in-Bytes-clause-marks
mark-returns-in-Bytes-clause-marks t c =
    rw (c.in-Bytes.is, meaning-Bytes) (Marks-byte_in _ _ _ _ c.mark_class.ensures.marks)

pub mark-returns-then-mark-clause-marks : goal.mark-returns-then-mark-clause-marks
mark-returns-then-mark-clause-marks t c =
    rw (c.in-Repetition.is, meaning-Repetition) (Marks-repeat _ _ _ _ _ _ _ _ (λ _. c.if-mark.true)
    (rw (← c.deref-in-Repetition.ensures) c.mark.ensures.marks))

pub mark-returns-else-mark-clause-marks : goal.mark-returns-else-mark-clause-marks
mark-returns-else-mark-clause-marks t c =
    rw (c.in-Repetition.is, meaning-Repetition) (Marks-repeat _ _ _ _ _ _ _ _ (eq-eqb _ 0)
    (Marks-upto _ _ _ _ _ (rw (← c.deref-in-Repetition.ensures) c.if-mark.ensures.marks)))

pub mark_sequence-returns-then-not-mark-clause-marks : goal.mark_sequence-returns-then-not-mark-clause-marks
mark_sequence-returns-then-not-mark-clause-marks t c =
    let more = Marks-more true false _ _ false c.loop-i.i c.args.subs.now c.index-subs-i.result c.loop-i-test.true c.index-subs-i.is
    c.mark.ensures.keeps c.loop-i.invariant.0 c.if-not-mark.ensures.marks in
    Marks-whole true false _ _ _ more

pub mark_sequence-loop-i-preserved : goal.mark_sequence-loop-i-preserved
mark_sequence-loop-i-preserved t c =
    let more = Marks-more true false _ _ true c.loop-i.i c.args.subs.now c.index-subs-i.result c.loop-i-test.true c.index-subs-i.is
    c.mark.ensures.keeps c.loop-i.invariant.0 c.if-not-mark.ensures.marks in
    (more, λ b has. c.mark.ensures.keeps b (c.loop-i.invariant.1 b has))

pub mark_choice-loop-i-init : goal.mark_choice-loop-i-init
mark_choice-loop-i-init t c =
    (Marks-none _ _ _ _, λ b h. h)

pub mark_choice-loop-i-preserved : goal.mark_choice-loop-i-preserved
mark_choice-loop-i-preserved t c =
    let old = Marks-wider _ _ _ _ _ _ c.mark.ensures.keeps c.loop-i.invariant.0 in
    let branch = λ (o : Bool). Marks-branch true false c.mark.new.set o _ _ _ c.loop-i-test.true c.index-subs-i.is in (
      elim c.if-mark.branch [
        | mark_choice-then-mark w ↦ rw w.silent-is (branch true (Marks-open _ _ _ _ _ old) (Marks-open _ _ _ _ _ c.mark.ensures.marks))
        | mark_choice-else-mark w ↦ rw w.silent-is (branch _ old (Marks-upto _ _ _ _ _ (subst (λ (o : Bool). Marks true false c.mark.new.set o (meaning c.index-subs-i.result)) w.if-mark.false c.mark.ensures.marks)))
      ],
      λ b has. c.mark.ensures.keeps b (c.loop-i.invariant.1 b has),
    )
