use Rattle.std.proofs.Common.{◌≡◌, ◌++◌, take}
use Rattle.csv.specs.Records.{fields_of}
use Rattle.csv.specs.Writing.{row_body}
use Rattle.phone_csv.specs.Formats.{writing}
use Rattle.phone_csv.proofs.spelled.push_fields.Given as goal

abbrev pub invariant-columns : goal.invariant-columns
invariant-columns l = l.text.items ≡ l.fn.text.items ++ row_body (writing l.delimiter) (take l.column (fields_of l.fields))
