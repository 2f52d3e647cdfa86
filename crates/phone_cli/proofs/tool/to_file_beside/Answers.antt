use Rattle.std.proofs.Common.{refl}
use Rattle.phone_cli.specs.Answers.AnswersReading.{to_file, unplaced, unwritten}
use Rattle.phone_cli.proofs.tool.to_file_beside.Goals as goal

pub returns-in_default : goal.returns-in_default
returns-in_default g c = λ taken faults unflushed reads fits database out free.
    rw c.say.ensures.status (unwritten _ out record {
      idle = refl;
      said = c.say.ensures.told;
    })

pub returns-then-put_in_place : goal.returns-then-put_in_place
returns-then-put_in_place g c = λ taken faults unflushed reads fits database out free.
    let does = rw (c.new-sink.ensures.faults, c.new-sink.ensures.unflushed) at
    (c.on_reading-status.ensures reads fits) in
    to_file _ _ _ _ _ fits database out free
    (record { taken = refl; faults = refl; unflushed = refl }) does

pub returns : goal.returns
returns g c = λ taken faults unflushed reads fits database out free.
    let does = rw (
      c.new-sink.ensures.faults,
      c.new-sink.ensures.unflushed,
      c.put_in_place.ensures c.if-put_in_place.false,
    ) at (c.on_reading-status.ensures reads fits) in
    rw c.say-2.ensures.status (unplaced _ _ _ _ _ _ fits database out free
    (record { taken = refl; faults = refl; unflushed = refl }) does c.say-2.ensures.told)
