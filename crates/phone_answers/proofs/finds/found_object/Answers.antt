use Rattle.std.proofs.Common.{◌∙◌, ap}
use Rattle.serde_json.specs.Written.{compact_text}
use Rattle.phone_answers.specs.Finds.{object_of_found}
use Rattle.phone_answers.proofs.finds.found_object.Goals as goal

pub returns-in-Ok-clause-object : goal.returns-in-Ok-clause-object
returns-in-Ok-clause-object c =
    let a = c.in_ok-known.ensures.spelled in (
      a.0,
      a.1,
      c.in-Ok.ensures ∙ ap (λ f. compact_text (object_of_found c.args.engine.rules c.args.engine.database.now c.args.spot c.args.number.now f)) a.2,
    )
