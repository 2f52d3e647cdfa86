use Rattle.std.proofs.Common.{◌+◌, ◌++◌, slice_range, ap, sym, append_assoc, ◌∙◌, arith}
use Rattle.std.proofs.lemmas.List.{append-nil}
use Rattle.std.specs.Option.{option_to_list}
use Rattle.csv.specs.Records.{field_at, fields_of}
use Rattle.phone_table.proofs.SharedLemmas.{range_end, range_front}
use Rattle.phone_table.proofs.duplicates.push_fields.Goals as goal

pub fields-preserved : goal.fields-preserved
fields-preserved c =
    let from = fields_of c.args.from.now in
    let fields = fields_of c.fields.fields in
    let i = c.fields.place in
    let end = c.args.end in
    let one = option_to_list (field_at from i) in
    record {
      fields = ap (λ f. f ++ slice_range from (i + 1) end) c.in_ok-push_one.ensures.fields ∙ append_assoc fields one (slice_range from (i + 1) end)
          ∙ ap (λ f. fields ++ f) (sym (range_front from i end c.fields-test.true)) ∙ c.fields.invariant.fields;
      partial = c.in_ok-push_one.ensures.partial;
    }

pub returns-clause-fields : goal.returns-clause-fields
returns-clause-fields c =
    let from = fields_of c.args.from.now in
    let fields = fields_of c.fields.fields in
    sym (append-nil fields) ∙ ap (λ f. fields ++ f) (sym (range_end from c.fields.place c.args.end (omega (arith, c.fields-test.false)))) ∙ c.fields.invariant.fields
