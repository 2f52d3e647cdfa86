use Rattle.phone_plans.proofs.TextFaults.{faults_of-text}
use Rattle.phone_plans.proofs.plans.Plans.of_json.Goals as goal

pub returns-in-Ok-clause-no_io : goal.returns-in-Ok-clause-no_io
returns-in-Ok-clause-no_io c = faults_of-text c.in-Ok.text.now c.parse.result c.parse.ensures.refused
