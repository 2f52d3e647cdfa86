use Rattle.std.proofs.Common.{map, drop}
use Rattle.phone_automaton.specs.Rows.{GivesBefore, Grows, IsPlace, TellsBefore}
use Rattle.regex_hir.specs.Meaning.{meaning, alt_all, cat_all, copies, up_to}
use Rattle.regex_hir.specs.Re.{empty}
use Rattle.phone_automaton.proofs.tree.+row_of.Given as goal

abbrev pub invariant-row_of_all-loop-i : goal.invariant-row_of_all-loop-i
invariant-row_of_all-loop-i l = record {
  grows : Grows l.fn.rows l.rows;
  next : IsPlace l.rows l.next;
  gives : GivesBefore l.rows l.row l.next (cat_all (map meaning (drop l.i l.subs)));
}

abbrev pub invariant-row_of_any-loop-i : goal.invariant-row_of_any-loop-i
invariant-row_of_any-loop-i l = record {
  grows : Grows l.fn.rows l.rows;
  next : IsPlace l.rows l.next;
  gives : GivesBefore l.rows l.row l.next (alt_all (map meaning (drop l.i l.subs)));
}

abbrev pub invariant-row_of_copies-loop-done : goal.invariant-row_of_copies-loop-done
invariant-row_of_copies-loop-done l = record {
  grows : Grows l.fn.rows l.rows;
  place : IsPlace l.rows l.place;
  next : IsPlace l.rows l.next;
  tells : TellsBefore l.rows l.place l.next (copies l.done (meaning l.sub) empty);
}

abbrev pub invariant-place_of_up_to-loop-done : goal.invariant-place_of_up_to-loop-done
invariant-place_of_up_to-loop-done l = record {
  grows : Grows l.fn.rows l.rows;
  place : IsPlace l.rows l.place;
  next : IsPlace l.rows l.next;
  tells : TellsBefore l.rows l.place l.next (up_to l.greedy l.done (meaning l.sub));
}
