use Rattle.std.specs.Str.{chars}
use Rattle.phone_doubts.proofs.pairs.behind_separator.Goals as goal

pub returns : goal.returns
unfolding chars
returns c = c.behind_one_of.ensures
