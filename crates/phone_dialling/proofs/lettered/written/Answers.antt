use Rattle.std.proofs.Common.{rules}
use Rattle.std.proofs.lemmas.Str.{encodes-chars}
use Rattle.phone_dialling.proofs.lettered.written.Goals as goal

pub returns : goal.returns
returns c = search (rules, encodes-chars)
