use Rattle.std.proofs.Common.{◌≡◌, ◌++◌, [], drop, map}
use Rattle.csv.specs.Records.{fields_of, partial_of}
use Rattle.phone_answers.specs.Fields.{name_of}
use Rattle.phone_table.specs.Headers.{behind}
use Rattle.phone_table.proofs.names.push_field_names.Given as goal

abbrev pub invariant-fields : goal.invariant-fields
invariant-fields l = record {
  names : fields_of l.names ++ behind l.front (map name_of (drop l.field-index l.fields)) ≡ fields_of l.fn.names ++ behind l.front (map name_of l.fields);
  partial : partial_of l.names ≡ [];
}
