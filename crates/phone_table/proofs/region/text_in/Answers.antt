use Rattle.std.proofs.Common.{ap, ◌∙◌}
use Rattle.std.specs.Str.{trim}
use Rattle.phone_table.proofs.region.text_in.Goals as goal

pub returns-in-Ok : goal.returns-in-Ok
returns-in-Ok c = (c.in-Ok.ensures.cases.1, c.trim.ensures.trim ∙ ap trim c.in-Ok.ensures.cases.0)

pub returns-in-Err : goal.returns-in-Err
returns-in-Err c = c.in-Err.ensures.cases.0
