use Rattle.std.proofs.Common.{refl}
use Rattle.std.specs.Str.{chars}
use Rattle.phone_find.specs.Rules.{dates}
use Rattle.phone_find.proofs.rules.dates.Goals as goal

pub returns : goal.returns
unfolding chars dates
returns c = refl
