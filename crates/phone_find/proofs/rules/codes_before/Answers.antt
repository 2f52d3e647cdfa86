use Rattle.std.proofs.Common.{refl}
use Rattle.std.specs.Str.{chars}
use Rattle.phone_find.specs.Rules.{codes_before}
use Rattle.phone_find.proofs.rules.codes_before.Goals as goal

pub returns : goal.returns
unfolding chars codes_before
returns c = refl
