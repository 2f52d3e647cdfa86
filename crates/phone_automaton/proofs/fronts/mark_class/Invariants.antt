use Rattle.std.proofs.Common.{◌≡◌, ℕ, ◌≤◌, true, take}
use Rattle.regex_class.specs.Ranges.{in_ranges}
use Rattle.regex_extract.specs.Frames.{Has, Widens}
use Rattle.phone_automaton.proofs.fronts.mark_class.Given as goal

abbrev pub invariant-loop-range : goal.invariant-loop-range
invariant-loop-range l =
    ((c : ℕ) → in_ranges (take l.range-index l.range-items) c ≡ true → c ≤ l.most → Has l.set c) × Widens l.fn.set l.set
