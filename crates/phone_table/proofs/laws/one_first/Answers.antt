use Rattle.phone_table.proofs.DuplicateLaws.{names_first, one_first}
use Rattle.phone_table.proofs.laws.one_first.Goals as goal

pub returns-clause-named : goal.returns-clause-named
returns-clause-named c = names_first

pub returns-clause-one : goal.returns-clause-one
returns-clause-one c = one_first
