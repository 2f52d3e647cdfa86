use Rattle.std.proofs.Common.{◌≡◌, ◌++◌, [], drop, map}
use Rattle.csv.specs.Records.{fields_of, partial_of}
use Rattle.phone_answers.specs.Cells.{told_by}
use Rattle.phone_answers.proofs.answer.push_cells.Given as goal

abbrev pub invariant-fields : goal.invariant-fields
invariant-fields l = record {
  cells : fields_of l.record ++ map (told_by l.cells) (drop l.field-index l.fields) ≡ fields_of l.fn.record ++ map (told_by l.cells) l.fields;
  partial : partial_of l.record ≡ [];
}
