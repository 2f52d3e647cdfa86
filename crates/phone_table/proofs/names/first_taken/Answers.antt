use Rattle.std.proofs.Common.{◌≡◌, ◌<◌, Some, true, false, length, ap, sym, ◌∙◌, arith}
use Rattle.csv.specs.Records.{fields_of}
use Rattle.phone_table.specs.Headers.{is_taken}
use Rattle.phone_table.specs.Regions.{field_in}
use Rattle.phone_table.proofs.ColumnLemmas.{find-field, find-past}
use Rattle.phone_table.proofs.names.first_taken.Goals as goal

pub returns-then-is_taken : goal.returns-then-is_taken
returns-then-is_taken c =
    let added = fields_of c.args.added.now in
    let test = is_taken (fields_of c.args.header.now) added in
    let there : c.names.place < length added = omega (arith, c.names-test.true, c.len-place-end.ensures) in
    let name = c.field_in-name.ensures in
    let is : test (field_in added c.names.place) ≡ true = ap test (sym name) ∙ sym c.is_taken.ensures ∙ c.if-is_taken.true in
    ap Some name ∙ sym (find-field test added c.names.place there is) ∙ c.names.invariant

pub names-preserved : goal.names-preserved
names-preserved c =
    let added = fields_of c.args.added.now in
    let test = is_taken (fields_of c.args.header.now) added in
    let there : c.names.place < length added = omega (arith, c.names-test.true, c.len-place-end.ensures) in
    let other : test (field_in added c.names.place) ≡ false = ap test (sym c.field_in-name.ensures) ∙ sym c.is_taken.ensures ∙ c.if-is_taken.false in
    sym (find-past test added c.names.place there other) ∙ c.names.invariant
