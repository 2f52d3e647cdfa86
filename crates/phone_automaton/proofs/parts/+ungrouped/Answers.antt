use Rattle.std.proofs.lemmas.List.{take_all}
use Rattle.regex_hir.proofs.MeaningLemmas.{meaning-Repetition}
use Rattle.phone_automaton.proofs.Parting.{none_in_choice, none_in_more, repeats_none}
use Rattle.phone_automaton.proofs.parts.+ungrouped.Goals as goal

pub has_no_group-returns-in-Repetition : goal.has_no_group-returns-in-Repetition
has_no_group-returns-in-Repetition t c = λ yes.
    rw (c.in-Repetition.is, meaning-Repetition) (repeats_none _ _ _ _ (rw (← c.deref.ensures) (c.has_no_group.ensures yes)))

pub have_no_group-loop-i-preserved : goal.have_no_group-loop-i-preserved
have_no_group-loop-i-preserved t c =
    none_in_more c.args.subs.now c.loop-i.i c.index-subs-i.result c.loop-i-test.true c.index-subs-i.is c.loop-i.invariant
    (c.has_no_group.ensures c.if-not-has_no_group.false)

pub have_no_group-returns-clause-choice : goal.have_no_group-returns-clause-choice
have_no_group-returns-clause-choice t c = λ _.
    none_in_choice c.args.subs.now
    (rw (take_all c.loop-i.i c.args.subs.now c.loop-i-test.false) at c.loop-i.invariant)
