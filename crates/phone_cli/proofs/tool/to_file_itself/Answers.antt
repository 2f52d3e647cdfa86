use Rattle.std.proofs.Common.{refl}
use Rattle.phone_cli.specs.Answers.AnswersReading.{to_file, unwritten}
use Rattle.phone_cli.proofs.tool.to_file_itself.Goals as goal

pub returns-in-Ok : goal.returns-in-Ok
returns-in-Ok g c = λ taken faults unflushed reads fits database out free.
    let does = rw (c.new.ensures.faults, c.new.ensures.unflushed) at
    (c.on_reading.ensures reads fits) in
    to_file _ _ _ _ _ fits database out free
    (record { taken = refl; faults = refl; unflushed = refl }) does

pub returns-in-Err : goal.returns-in-Err
returns-in-Err g c = λ taken faults unflushed reads fits database out free.
    rw c.say.ensures.status (unwritten _ out record {
      idle = refl;
      said = c.say.ensures.told;
    })
