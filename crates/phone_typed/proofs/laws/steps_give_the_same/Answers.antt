use Rattle.std.proofs.Common.{[], ◌∷◌}
use Rattle.phone_typed.proofs.KeysOfTexts.{with_keys-append}
use Rattle.phone_typed.proofs.laws.steps_give_the_same.Goals as goal

pub returns-clause-one : goal.returns-clause-one
returns-clause-one c text k = with_keys-append [] text (k ∷ [])

pub returns-clause-all : goal.returns-clause-all
returns-clause-all c text more = with_keys-append [] text more
