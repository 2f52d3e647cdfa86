use Rattle.std.proofs.Common.{refl}
use Rattle.std.specs.Str.{chars}
use Rattle.phone_find.specs.Rules.{cards}
use Rattle.phone_find.proofs.rules.cards.Goals as goal

pub returns : goal.returns
unfolding chars cards
returns c = refl
