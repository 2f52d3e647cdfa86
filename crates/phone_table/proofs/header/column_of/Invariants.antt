use Rattle.std.proofs.Common.{◌≢◌, ℕ, ◌<◌, Some}
use Rattle.csv.specs.Records.{field_at, fields_of}
use Rattle.phone_table.proofs.header.column_of.Given as goal

abbrev pub invariant-loop-column : goal.invariant-loop-column
invariant-loop-column l = (j : ℕ) → j < l.column → field_at (fields_of l.header) j ≢ Some l.name
