use Rattle.std.proofs.Common.{◌≡◌, ◌<◌, ◌+◌, ◌*◌, ℕ, length, slice_index}
use Rattle.phone_automaton.specs.Digits.{place_of}
use Rattle.phone_automaton.specs.Rows.{Grows, IsEitherCell, IsPlace}
use Rattle.phone_automaton.proofs.rows.+join.Given as goal

abbrev pub decreases-either : goal.decreases-either
decreases-either l = 3 * l.depth

abbrev pub decreases-join : goal.decreases-join
decreases-join l = 3 * l.depth + 2

abbrev pub decreases-either_cell : goal.decreases-either_cell
decreases-either_cell l = 3 * l.depth + 1

abbrev pub invariant-join-loop-column : goal.invariant-join-loop-column
invariant-join-loop-column l = record {
  grows : Grows l.fn.rows l.rows;
  cells : length l.row ≡ 11;
  lead : (c : ℕ) → c < 11 → IsPlace l.rows (place_of (slice_index l.row c));
  either : (c : ℕ) → c < l.column →
      IsEitherCell l.rows (slice_index l.row c) (slice_index l.a c) (slice_index l.b c);
  last_place : IsPlace l.rows (place_of l.last.cell);
  last_either : IsEitherCell l.rows l.last.cell l.last.first l.last.second;
}
