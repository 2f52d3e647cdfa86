use Rattle.std.proofs.Common.{[], refl}
use Rattle.phone_typed.specs.Keys.{keys_in}
use Rattle.phone_typed.proofs.KeysOfTexts.{all-with_keys}
use Rattle.phone_typed.proofs.TypedKeys.{typed-shows}
use Rattle.phone_typed.proofs.laws.no_key_is_lost.Goals as goal

pub returns-clause-keys : goal.returns-clause-keys
returns-clause-keys c db hint text = (typed-shows db hint (keys_in text) (all-with_keys [] text refl)).0

pub returns-clause-marks : goal.returns-clause-marks
returns-clause-marks c db hint text = (typed-shows db hint (keys_in text) (all-with_keys [] text refl)).1
