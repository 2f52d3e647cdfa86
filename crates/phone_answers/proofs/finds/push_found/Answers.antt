use Rattle.std.proofs.Common.{◌∙◌, ap₂}
use Rattle.phone_answers.specs.Finds.{found_record}
use Rattle.phone_answers.proofs.finds.push_found.Goals as goal

pub returns-in-Ok-clause-fields : goal.returns-in-Ok-clause-fields
returns-in-Ok-clause-fields c =
    let a = c.in_ok-known.ensures.spelled in (
      _,
      (a.0, a.1, ap₂ (λ e f. found_record c.args.spot e f) c.extension_of.ensures a.2),
      c.in-Ok.ensures,
    )
