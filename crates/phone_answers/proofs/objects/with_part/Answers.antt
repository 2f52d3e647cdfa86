use Rattle.std.proofs.Common.{◌∙◌, subst}
use Rattle.serde_json.specs.Data.{put, string}
use Rattle.phone_answers.specs.Objects.{AreMade}
use Rattle.phone_answers.proofs.objects.with_part.Goals as goal

pub returns-in-Ok : goal.returns-in-Ok
returns-in-Ok c ms h =
    subst (λ x. AreMade c.with_text.result (put c.args.key.now (string x) ms))
    (c.as_str.ensures.value ∙ c.in-Ok.ensures) (c.with_text.ensures ms h)
