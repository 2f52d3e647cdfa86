use Rattle.std.proofs.Common.{◌≡◌, drop}
use Rattle.csv.specs.Records.{fields_of}
use Rattle.phone_table.specs.Counts.{is_stray}
use Rattle.phone_table.proofs.counts.is_stray.Given as goal

abbrev pub invariant-fields : goal.invariant-fields
invariant-fields l = is_stray (drop l.place (fields_of l.row)) ≡ is_stray (fields_of l.row)
