use Rattle.std.proofs.Common.{◌≡◌, ◌++◌, [], slice_range}
use Rattle.csv.specs.Records.{fields_of, partial_of}
use Rattle.phone_table.proofs.duplicates.push_fields.Given as goal

abbrev pub invariant-fields : goal.invariant-fields
invariant-fields l = record {
  fields : fields_of l.fields ++ slice_range (fields_of l.from) l.place l.end ≡ fields_of l.fn.fields ++ slice_range (fields_of l.from) l.fn.start l.end;
  partial : partial_of l.fields ≡ [];
}
