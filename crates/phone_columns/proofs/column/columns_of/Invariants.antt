use Rattle.std.proofs.Common.{◌≡◌, take}
use Rattle.phone_columns.specs.Columns.{columns_of}
use Rattle.phone_columns.proofs.column.columns_of.Given as goal

abbrev pub invariant-loop-number : goal.invariant-loop-number
invariant-loop-number l = l.columns.items ≡ columns_of (take l.number-index l.numbers)
