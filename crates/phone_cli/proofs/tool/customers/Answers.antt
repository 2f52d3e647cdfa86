use Rattle.std.proofs.Common.{refl}
use Rattle.phone_cli.specs.Answers.Does.{taken}
use Rattle.phone_cli.proofs.tool.customers.Goals as goal

pub returns-in-Some : goal.returns-in-Some
returns-in-Some g c = λ is rules under loaded.
    let told = c.say_taken_summary.ensures.told in
    rw c.say_taken_summary.ensures.status (taken is (c.in-Some.ensures.named refl) (told.0, record { idle = refl; said = told.1 }))

pub returns-in-None : goal.returns-in-None
returns-in-None g c = λ is rules under loaded. c.on_table.ensures is rules under loaded (c.in-None.ensures.apart refl)
