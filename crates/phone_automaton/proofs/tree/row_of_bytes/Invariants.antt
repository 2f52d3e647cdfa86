use Rattle.std.proofs.Common.{drop}
use Rattle.phone_automaton.specs.Rows.{GivesBefore, Grows, IsPlace}
use Rattle.regex_hir.specs.Re.{literal}
use Rattle.phone_automaton.proofs.tree.row_of_bytes.Given as goal

abbrev pub invariant-loop-i : goal.invariant-loop-i
invariant-loop-i l = record {
  grows : Grows l.fn.rows l.rows;
  next : IsPlace l.rows l.next;
  gives : GivesBefore l.rows l.row l.next (literal (drop l.i l.bytes));
}
