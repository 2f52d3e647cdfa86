use Rattle.std.proofs.Common.{[], ◌∷◌, ap, sym}
use Rattle.phone_pattern.proofs.plan.Plan.new.Goals as goal

pub returns-in-Err-Refused-clause-refused : goal.returns-in-Err-Refused-clause-refused
returns-in-Err-Refused-clause-refused c = ([], [], ap (λ text. text ∷ []) (sym c.into_string.ensures), tt)
