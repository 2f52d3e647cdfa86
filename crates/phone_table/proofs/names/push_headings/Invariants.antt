use Rattle.std.proofs.Common.{◌≡◌, ◌++◌, [], drop}
use Rattle.csv.specs.Records.{fields_of, partial_of}
use Rattle.phone_table.specs.Headers.{headings}
use Rattle.phone_table.specs.Headers.{behind}
use Rattle.phone_table.proofs.names.push_headings.Given as goal

abbrev pub invariant-columns : goal.invariant-columns
invariant-columns l = record {
  headings : fields_of l.names ++ behind l.front (headings (drop l.column-index l.extra)) ≡ fields_of l.fn.names ++ behind l.front (headings l.extra);
  partial : partial_of l.names ≡ [];
}
