use Rattle.std.proofs.Common.{◌≡◌, take}
use Rattle.std.specs.List.{flat_map}
use Rattle.phone_columns.specs.Cells.{cell_of_row}
use Rattle.phone_columns.proofs.cells.cells.Given as goal

abbrev pub invariant-loop-answer : goal.invariant-loop-answer
invariant-loop-answer l = l.bytes.items ≡ flat_map (cell_of_row l.cell) (take l.answer-index l.answers)
