use Rattle.std.proofs.Common.{◌∙◌, ◌++◌, ◌∷◌, [], ap}
use Rattle.phone_plain.proofs.Parting.{one_range_rises}
use Rattle.phone_plain.proofs.atoms.digits.Goals as goal

pub invariant_of-result : goal.invariant_of-result
invariant_of-result c =
    record { canonical = one_range_rises c.push.new.self.items (c.in_ok-push.ensures.items ∙ ap (λ rs. rs ++ (48, 57) ∷ []) c.new-ranges.ensures.items) }
