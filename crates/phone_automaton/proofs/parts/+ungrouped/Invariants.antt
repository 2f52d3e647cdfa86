use Rattle.std.proofs.Common.{◌≡◌, take}
use Rattle.regex_syntax.specs.Grammar.{group_count}
use Rattle.regex_syntax.specs.Same.{sequence}
use Rattle.phone_automaton.proofs.parts.+ungrouped.Given as goal

abbrev pub invariant-have_no_group-loop-i : goal.invariant-have_no_group-loop-i
invariant-have_no_group-loop-i l = group_count (sequence (take l.i l.subs)) ≡ 0
