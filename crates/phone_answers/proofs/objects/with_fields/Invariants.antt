use Rattle.std.proofs.Common.{◌≡◌, drop}
use Rattle.serde_json.specs.Data.{Members}
use Rattle.phone_answers.specs.Cells.{spelled_by}
use Rattle.phone_answers.specs.Objects.{AreMade, with_fields}
use Rattle.phone_answers.proofs.objects.with_fields.Given as goal

abbrev pub invariant-fields : goal.invariant-fields
invariant-fields l = (ms : Members) → AreMade l.fn.members ms →
    (made : Members) × AreMade l.members made ×
    (with_fields (drop l.field-index l.fields) (spelled_by l.cells) made ≡ with_fields l.fields (spelled_by l.cells) ms)
