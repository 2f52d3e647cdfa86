use Rattle.std.proofs.Common.{◌<◌, length, sym}
use Rattle.csv.specs.Records.{fields_of}
use Rattle.csv.proofs.RecordFacts.{field-get}
use Rattle.phone_csv.proofs.SpelledLemmas.{fields_more}
use Rattle.phone_csv.proofs.spelled.push_fields.Goals as goal

pub columns-preserved : goal.columns-preserved
columns-preserved c =
    let rows = fields_of c.args.fields.now in
    let lt : c.columns.column < length rows = rw (← c.len-column-end.ensures) c.columns-test.true in
    let same = field-get _ _ _ (sym c.in-Some.ensures.value) in
    fields_more c.args.delimiter c.args.text.now.items c.columns.text.items _ c.in-Some.field.now rows c.columns.column lt same c.columns.invariant c.in_ok-push_next.ensures
