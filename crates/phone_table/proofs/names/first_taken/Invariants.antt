use Rattle.std.proofs.Common.{◌≡◌, drop}
use Rattle.std.specs.List.{find}
use Rattle.csv.specs.Records.{fields_of}
use Rattle.phone_table.specs.Headers.{first_taken, is_taken}
use Rattle.phone_table.proofs.names.first_taken.Given as goal

abbrev pub invariant-names : goal.invariant-names
invariant-names l = find (is_taken (fields_of l.header) (fields_of l.added)) (drop l.place (fields_of l.added)) ≡ first_taken (fields_of l.header) (fields_of l.added)
