use Rattle.std.proofs.Common.{rules}
use Rattle.phone_places.specs.Tables.IsFault.{no_end}
use Rattle.phone_places.proofs.countries.take_line.Goals as goal

pub returns-in_default-clause-refused : goal.returns-in_default-clause-refused
returns-in_default-clause-refused c = (search rules, no_end c.requires.some c.in_default.ensures)

pub returns-in-Ok-clause-taken : goal.returns-in-Ok-clause-taken
returns-in-Ok-clause-taken c = (c.in-Some.line.now, c.in-Some.ensures.0, c.in-Ok.ensures.taken)

pub returns-in-Err-clause-refused : goal.returns-in-Err-clause-refused
returns-in-Err-clause-refused c = rw c.in-Some.ensures.0 (c.in-Err.ensures.refused c.in-Some.rest.now)
