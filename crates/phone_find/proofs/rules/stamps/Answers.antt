use Rattle.std.proofs.Common.{refl}
use Rattle.std.specs.Str.{chars}
use Rattle.phone_find.specs.Rules.{stamps}
use Rattle.phone_find.proofs.rules.stamps.Goals as goal

pub returns : goal.returns
unfolding chars stamps
returns c = refl
