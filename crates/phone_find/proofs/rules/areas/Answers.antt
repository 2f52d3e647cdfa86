use Rattle.std.proofs.Common.{refl}
use Rattle.std.specs.Str.{chars}
use Rattle.phone_find.specs.Rules.{areas}
use Rattle.phone_find.proofs.rules.areas.Goals as goal

pub returns : goal.returns
unfolding chars areas
returns c = refl
