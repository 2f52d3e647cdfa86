use Rattle.std.proofs.Common.{refl}
use Rattle.std.specs.Str.{chars}
use Rattle.phone_find.specs.Rules.{neighbours}
use Rattle.phone_find.proofs.rules.neighbours.Goals as goal

pub returns : goal.returns
unfolding chars neighbours
returns c = refl
