use Rattle.std.proofs.Common.{refl}
use Rattle.std.specs.Str.{chars}
use Rattle.phone_find.specs.Rules.{labels}
use Rattle.phone_find.proofs.rules.labels.Goals as goal

pub returns : goal.returns
unfolding chars labels
returns c = refl
