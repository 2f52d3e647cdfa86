use Rattle.std.proofs.Common.{◌≡◌, ℕ, take}
use Rattle.phone_automaton.specs.Ascii.{in_ascii}
use Rattle.phone_automaton.proofs.narrow.cut.Given as goal
use Rattle.regex_class.specs.Ranges.{in_ranges}

abbrev pub invariant-loop-i : goal.invariant-loop-i
invariant-loop-i l = (c : ℕ) → in_ranges l.kept.items c ≡ in_ascii (take l.i l.ranges) c
