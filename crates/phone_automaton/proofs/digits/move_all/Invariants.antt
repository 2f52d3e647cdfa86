use Rattle.std.proofs.Common.{◌≡◌, ◌≤◌, ◌<◌, ℕ, length, slice_index}
use Rattle.phone_automaton.specs.Rows.{moved}
use Rattle.phone_automaton.proofs.digits.move_all.Given as goal

abbrev pub invariant-loop-k : goal.invariant-loop-k
invariant-loop-k l = record {
  whole : length l.cells ≡ length l.initial.cells;
  before : (j : ℕ) → j < l.k → slice_index l.cells j ≡ moved (slice_index l.initial.cells j);
  behind : (j : ℕ) → l.k ≤ j → slice_index l.cells j ≡ slice_index l.initial.cells j;
}
