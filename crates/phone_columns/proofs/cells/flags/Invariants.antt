use Rattle.std.proofs.Common.{◌≡◌, map, take}
use Rattle.phone_columns.specs.Cells.{is_number}
use Rattle.phone_columns.proofs.cells.flags.Given as goal

abbrev pub invariant-loop-answer : goal.invariant-loop-answer
invariant-loop-answer l = l.flags.items ≡ map is_number (take l.answer-index l.answers)
