use Rattle.std.proofs.Common.{refl}
use Rattle.phone_cli.specs.Answers.Does.{refused}
use Rattle.phone_cli.proofs.found.found.Goals as goal

pub returns-in-Err : goal.returns-in-Err
returns-in-Err g c = λ finds rules under. rw c.say_refusal.ensures.status
    (refused (
      c.say_refusal.ensures.told.0,
      record {
        idle = refl;
        said = c.say_refusal.ensures.told.1;
      },
    ))
