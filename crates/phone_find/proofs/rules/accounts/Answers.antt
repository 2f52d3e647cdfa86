use Rattle.std.proofs.Common.{refl}
use Rattle.std.specs.Str.{chars}
use Rattle.phone_find.specs.Rules.{accounts}
use Rattle.phone_find.proofs.rules.accounts.Goals as goal

pub returns : goal.returns
unfolding chars accounts
returns c = refl
