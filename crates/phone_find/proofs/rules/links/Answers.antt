use Rattle.std.proofs.Common.{refl}
use Rattle.std.specs.Str.{chars}
use Rattle.phone_find.specs.Rules.{links}
use Rattle.phone_find.proofs.rules.links.Goals as goal

pub returns : goal.returns
unfolding chars links
returns c = refl
