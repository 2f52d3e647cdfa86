use Rattle.std.proofs.Common.{◌≡◌, ◌++◌, take}
use Rattle.phone_csv.specs.RecordReports.{rows_text}
use Rattle.phone_table.specs.Duplicates.{marked_rows}
use Rattle.phone_table.specs.Held.{answered}
use Rattle.phone_table.proofs.duplicates.push_rows.Given as goal

abbrev pub invariant-loop-place : goal.invariant-loop-place
invariant-loop-place l = l.text.items ≡ l.fn.text.items ++ rows_text l.format (marked_rows (answered l.all) 2 (answered (take l.place l.all)))
