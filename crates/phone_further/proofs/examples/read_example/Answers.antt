use Rattle.phone_further.proofs.Read.{example_so, refusal_so}
use Rattle.phone_further.proofs.examples.read_example.Goals as goal

pub returns-in-Ok : goal.returns-in-Ok
returns-in-Ok c = example_so c.args.database.now c.args.hint c.args.text.now c.in-Ok.number c.in-Ok.ensures

pub returns-in-Err : goal.returns-in-Err
returns-in-Err c = refusal_so c.args.database.now c.args.hint c.args.text.now c.in-Err.error c.in-Err.ensures
