use Rattle.std.proofs.Common.{◌≡◌, ◌++◌, [], drop}
use Rattle.csv.specs.Records.{fields_of, partial_of}
use Rattle.phone_table.proofs.names.push_fields.Given as goal

abbrev pub invariant-fields : goal.invariant-fields
invariant-fields l = record {
  fields : fields_of l.fields ++ drop l.place (fields_of l.more) ≡ fields_of l.fn.fields ++ fields_of l.more;
  partial : partial_of l.fields ≡ [];
}
