use Rattle.std.proofs.Common.{◌∙◌, ap, refl, false, ◌≡◌}
use Rattle.std.proofs.lemmas.Result.{IfOk-weaker}
use Rattle.serde_json.specs.Written.{compact_text, has_float}
use Rattle.phone_answers.specs.Finds.{object_of_found}
use Rattle.phone_answers.specs.Cells.{spelled_by}
use Rattle.phone_answers.proofs.finds.text_of_found.Goals as goal

pub returns : goal.returns
returns c =
    let d = object_of_found c.args.engine.rules c.args.engine.database.now c.args.spot c.args.number.now (spelled_by c.args.cells) in
    let e = c.in_ok-object.ensures in
    let plain : has_float d ≡ false = refl in
    IfOk-weaker c.to_string.result _ _ (λ s text. text (ap has_float e ∙ plain) ∙ ap compact_text e) c.to_string.ensures.text
