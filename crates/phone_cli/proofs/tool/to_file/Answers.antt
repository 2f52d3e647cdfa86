use Rattle.std.proofs.Common.{refl}
use Rattle.phone_cli.specs.Answers.AnswersReading.{is_read, unwritten}
use Rattle.phone_cli.proofs.tool.to_file.Goals as goal

pub returns-then-is_read : goal.returns-then-is_read
returns-then-is_read g c = λ taken faults unflushed reads fits database out.
    rw c.say.ensures.status (is_read _ out record {
      idle = refl;
      said = c.say.ensures.told;
    })

pub returns-in-Itself : goal.returns-in-Itself
returns-in-Itself g c = λ taken faults unflushed reads fits database out.
    c.to_file_itself.ensures taken faults unflushed reads fits database out
    (c.is_read.ensures c.if-is_read.false)

pub returns-in-Beside : goal.returns-in-Beside
returns-in-Beside g c = λ taken faults unflushed reads fits database out.
    c.to_file_beside.ensures taken faults unflushed reads fits database out
    (c.is_read.ensures c.if-is_read.false)

pub returns-in-Nowhere : goal.returns-in-Nowhere
returns-in-Nowhere g c = λ taken faults unflushed reads fits database out.
    rw c.say-in-Nowhere.ensures.status (unwritten _ out record {
      idle = refl;
      said = c.say-in-Nowhere.ensures.told;
    })
