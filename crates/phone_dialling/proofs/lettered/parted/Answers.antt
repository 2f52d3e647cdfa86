use Rattle.std.proofs.Common.{rules}
use Rattle.std.proofs.lemmas.Str.{encodes-chars}
use Rattle.phone_dialling.proofs.lettered.parted.Goals as goal

pub returns-clause-before : goal.returns-clause-before
returns-clause-before c = search (rules, encodes-chars)

pub returns-clause-group : goal.returns-clause-group
returns-clause-group c = search (rules, encodes-chars)

pub returns-clause-behind : goal.returns-clause-behind
returns-clause-behind c = search (rules, encodes-chars)
