use Rattle.std.proofs.Common.{refl}
use Rattle.std.specs.Str.{chars}
use Rattle.phone_find.specs.Rules.{followers}
use Rattle.phone_find.proofs.rules.followers.Goals as goal

pub returns : goal.returns
unfolding chars followers
returns c = refl
