use Rattle.std.proofs.Common.{inr}
use Rattle.phone_compact.specs.Forms.{items}
use Rattle.phone_compact.specs.Records.{metadata}
use Rattle.phone_compact.proofs.records.Goals as goal

pub returns-in-None-clause-refused : goal.returns-in-None-clause-refused
returns-in-None-clause-refused c = inr (λ records held e. c.in-None.ensures ((items metadata).written records) e)
