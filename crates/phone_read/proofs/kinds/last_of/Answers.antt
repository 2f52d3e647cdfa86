use Rattle.std.proofs.Common.{sym, ◌∙◌}
use Rattle.phone_read.proofs.Lengths.{last_of-get}
use Rattle.phone_read.proofs.kinds.last_of.Goals as goal

pub returns-in-Some : goal.returns-in-Some
returns-in-Some c = c.from.ensures ∙ last_of-get c.args.least c.args.lengths.now c.in-Some.last.now (sym c.in-Some.ensures.value)
