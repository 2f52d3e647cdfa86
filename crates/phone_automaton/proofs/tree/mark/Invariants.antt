use Rattle.std.proofs.Common.{◌≡◌, ◌<◌, ◌≤◌, ◌+◌, ◌⊎◌, ℕ, length, slice_index}
use Rattle.phone_automaton.proofs.tree.mark.Given as goal

abbrev pub invariant-loop-digit : goal.invariant-loop-digit
invariant-loop-digit l = record {
  cells : length l.row ≡ 11;
  low : 48 ≤ l.digit;
  inside : (c : ℕ) → c < 10 → l.first ≤ 48 + c → 48 + c < l.digit → slice_index l.row c ≡ l.cell;
  outside : (c : ℕ) → c < 10 → (48 + c < l.first ⊎ l.last < 48 + c) →
      slice_index l.row c ≡ slice_index l.initial.row c;
  end : slice_index l.row 10 ≡ slice_index l.initial.row 10;
}
