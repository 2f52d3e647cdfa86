use Rattle.std.proofs.Common.{◌≡◌, ◌<◌, ◌||◌, ◌+◌, not, true, false, drop, length, ap, sym, ◌∙◌, arith}
use Rattle.std.specs.Str.{is_utf8}
use Rattle.csv.specs.Records.{fields_of}
use Rattle.phone_table.specs.Counts.{is_stray}
use Rattle.phone_table.specs.Regions.{field_in}
use Rattle.phone_table.proofs.ColumnLemmas.{drop-field}
use Rattle.phone_table.proofs.counts.is_stray.Goals as goal

pub returns-then-is_no_text : goal.returns-then-is_no_text
returns-then-is_no_text c =
    let row = fields_of c.args.row.now in
    let there : c.fields.place < length row = omega (arith, c.fields-test.true, c.len-place-end.ensures) in
    let is : not (is_utf8 (field_in row c.fields.place)) ≡ true = ap (λ f. not (is_utf8 f)) (sym c.field_in.ensures) ∙ sym c.is_no_text.ensures ∙ c.if-is_no_text.true in
    sym (ap (λ b. b || is_stray (drop (c.fields.place + 1) row)) is) ∙ sym (ap is_stray (drop-field row c.fields.place there)) ∙ c.fields.invariant

pub fields-preserved : goal.fields-preserved
fields-preserved c =
    let row = fields_of c.args.row.now in
    let there : c.fields.place < length row = omega (arith, c.fields-test.true, c.len-place-end.ensures) in
    let is : not (is_utf8 (field_in row c.fields.place)) ≡ false = ap (λ f. not (is_utf8 f)) (sym c.field_in.ensures) ∙ sym c.is_no_text.ensures ∙ c.if-is_no_text.false in
    sym (ap (λ b. b || is_stray (drop (c.fields.place + 1) row)) is) ∙ sym (ap is_stray (drop-field row c.fields.place there)) ∙ c.fields.invariant
