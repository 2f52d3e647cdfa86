use Rattle.std.proofs.Common.{◌≡◌, ◌<◌, length, ap, ◌∙◌, arith}
use Rattle.std.specs.Str.{bytes_eq}
use Rattle.csv.specs.Records.{fields_of}
use Rattle.phone_table.specs.Headers.{one_if}
use Rattle.phone_table.specs.Regions.{field_in}
use Rattle.phone_table.proofs.ColumnLemmas.{one_if-small, times-field}
use Rattle.phone_table.proofs.header.times.Goals as goal

pub columns-preserved : goal.columns-preserved
columns-preserved c =
    let fields = fields_of c.args.header.now in
    let name = c.args.name.now in
    let i = c.columns.column in
    let there : i < length fields = omega (arith, c.columns-test.true, c.len-column-end.ensures) in
    let one : c.one_if-count.result ≡ one_if (bytes_eq (field_in fields i) name) = c.one_if-count.ensures ∙ ap (λ f. one_if (bytes_eq f name)) c.field_in.ensures in
    record {
      counted = omega (arith, times-field fields name i there, one, c.columns.invariant.counted);
      small = omega (arith, one_if-small (bytes_eq (field_in fields i) name), one, c.columns.invariant.small);
    }
