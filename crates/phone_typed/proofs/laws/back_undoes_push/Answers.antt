use Rattle.std.proofs.Common.{◌-◌, ◌++◌, take, length, ap, ◌∙◌}
use Rattle.std.specs.Option.{option_to_list}
use Rattle.phone_typed.proofs.KeysOfTexts.{without_key}
use Rattle.phone_typed.proofs.laws.back_undoes_push.Goals as goal

pub returns : goal.returns
returns c keys char k e =
    ap (λ o. take (length (keys ++ option_to_list o) - 1) (keys ++ option_to_list o)) e ∙ without_key keys k
