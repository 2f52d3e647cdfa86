use Rattle.std.proofs.Common.{◌≡◌, ◌≤◌, ◌+◌, drop}
use Rattle.csv.specs.Records.{fields_of}
use Rattle.phone_table.specs.Headers.{times}
use Rattle.phone_table.proofs.header.times.Given as goal

abbrev pub invariant-columns : goal.invariant-columns
invariant-columns l = record {
  counted : l.count + times (drop l.column (fields_of l.header)) l.name ≡ times (fields_of l.header) l.name;
  small : l.count ≤ l.column;
}
