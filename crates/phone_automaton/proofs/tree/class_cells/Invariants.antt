use Rattle.std.proofs.Common.{◌≡◌, ◌<◌, ◌+◌, ℕ, cond, slice_index, take}
use Rattle.regex_class.specs.Ranges.{in_ranges}
use Rattle.phone_automaton.proofs.tree.class_cells.Given as goal

abbrev pub invariant-loop-range : goal.invariant-loop-range
invariant-loop-range l = record {
  digits : (c : ℕ) → c < 10 → slice_index l.row c ≡ cond
      (in_ranges (take l.range-index l.range-items) (48 + c)) l.cell 0;
  end : slice_index l.row 10 ≡ 0;
}
