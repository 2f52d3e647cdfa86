use Rattle.std.proofs.Common.{◌<◌, ◌+◌, ◌++◌, ◌∷◌, [], drop, length, ap, ap₂, sym, append_assoc, ◌∙◌, arith}
use Rattle.csv.specs.Records.{fields_of}
use Rattle.phone_table.specs.Regions.{field_in}
use Rattle.phone_table.proofs.ColumnLemmas.{drop-field}
use Rattle.phone_table.proofs.names.push_fields.Goals as goal

pub fields-preserved : goal.fields-preserved
fields-preserved c =
    let more = fields_of c.args.more.now in
    let fields = fields_of c.fields.fields in
    let i = c.fields.place in
    let there : i < length more = omega (arith, c.fields-test.true, c.len-place-end.ensures) in
    let pushed = c.in_ok-push_field.ensures.fields ∙ ap₂ (λ p w. fields ++ (p ++ w) ∷ []) c.fields.invariant.partial c.field_in.ensures in
    record {
      fields = ap (λ f. f ++ drop (i + 1) more) pushed ∙ append_assoc fields (field_in more i ∷ []) (drop (i + 1) more)
          ∙ ap (λ f. fields ++ f) (sym (drop-field more i there)) ∙ c.fields.invariant.fields;
      partial = c.in_ok-push_field.ensures.partial;
    }
