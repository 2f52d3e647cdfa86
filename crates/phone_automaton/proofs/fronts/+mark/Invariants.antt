use Rattle.std.proofs.Common.{true, false, map, take}
use Rattle.regex_hir.specs.Meaning.{meaning, alt_all}
use Rattle.regex_extract.specs.Frames.{Widens, Marks, sequence}
use Rattle.phone_automaton.proofs.fronts.+mark.Given as goal

abbrev pub invariant-mark_sequence-loop-i : goal.invariant-mark_sequence-loop-i
invariant-mark_sequence-loop-i l =
    Marks true false l.set true (sequence (take l.i l.subs)) × Widens l.fn.set l.set

abbrev pub invariant-mark_choice-loop-i : goal.invariant-mark_choice-loop-i
invariant-mark_choice-loop-i l =
    Marks true false l.set l.silent (alt_all (map meaning (take l.i l.subs))) × Widens l.fn.set l.set
