use Rattle.std.proofs.Common.{ap₂}
use Rattle.phone_values.specs.Numbers.{National, text_of}
use Rattle.phone_values.proofs.ReadBack.{text_of-injective}
use Rattle.phone_values.proofs.laws.same_text.Goals as goal

pub returns : goal.returns
returns c a b p q =
    (text_of-injective a b p q, λ h. ap₂ (λ z v. let n : National = record { zeros = z; value = v } in text_of n) h.1 h.0)
