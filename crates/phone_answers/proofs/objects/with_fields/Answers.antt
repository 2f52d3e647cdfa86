use Rattle.std.proofs.Common.{◌≡◌, ◌+◌, ◌∷◌, [], length, drop, get_or, ap, sym, subst, ◌∙◌, arith}
use Rattle.std.proofs.lemmas.List.{drop_more}
use Rattle.std.proofs.Math.Seq.{drop-length}
use Rattle.serde_json.specs.Data.{put, string}
use Rattle.phone_answers.specs.Cells.{spelled_by, told_by}
use Rattle.phone_answers.specs.Fields.{in_answer, name_of}
use Rattle.phone_answers.specs.Objects.{AreMade, with_fields}
use Rattle.phone_answers.specs.declared.field.Field.TheVariants.{E164}
use Rattle.phone_answers.proofs.FieldLemmas.{in_answer_by}
use Rattle.phone_answers.proofs.objects.with_fields.Goals as goal

pub fields-preserved : goal.fields-preserved
fields-preserved c ms h =
    let fields = c.args.fields.now in
    let at = c.fields.field-index in
    let field = get_or fields at E164 in
    let answer = spelled_by c.args.cells in
    let before = c.fields.invariant ms h in
    let split : drop at fields ≡ field ∷ drop (at + 1) fields = drop_more fields at E164 c.fields-test.true in
    let told = c.told.ensures ∙ sym (in_answer_by (told_by c.args.cells) field) in (
      put (name_of field) (string (in_answer answer field)) before.0,
      subst (λ x. AreMade c.with_text-members.result (put (name_of field) (string x) before.0)) told
          (subst (λ x. AreMade c.with_text-members.result (put x (string c.told.result.now) before.0)) c.name.ensures (c.with_text-members.ensures before.0 before.1)),
      ap (λ left. with_fields left answer before.0) (sym split) ∙ before.2,
    )

pub returns : goal.returns
returns c ms h =
    let fields = c.args.fields.now in
    let at : c.fields.field-index ≡ length fields = omega (arith, c.fields-test.false, c.fields.auto.field-index-end) in
    let left : drop c.fields.field-index fields ≡ [] = ap (λ n. drop n fields) at ∙ drop-length fields in
    let last = c.fields.invariant ms h in
    subst (λ x. AreMade c.fields.members x) (sym (ap (λ l. with_fields l (spelled_by c.args.cells) last.0) left) ∙ last.2) last.1
