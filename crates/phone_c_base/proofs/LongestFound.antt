-- Where an entry is the longest, some prefix begins the digits; and what is given has a status.
use Rattle.std.proofs.Common.{◌≡◌, ◌⊎◌, inl, inr, ℕ, List, sym, ◌∙◌, arith}
use Rattle.phone_prefixes.specs.Tables.{Entry, IsLongest, NoneBegins}
use Rattle.phone_c_base.specs.declared.status.TheConstants.{NO_PREFIX, OK, TOO_SMALL}

pub found_begins : (entries : List Entry) (digits : List ℕ) (entry : Entry) → IsLongest entries digits entry → ¬ (NoneBegins entries digits)
found_begins entries digits entry found none = none entry found.is found.begins

pub given : (status : ℕ) → (status ≡ OK) ⊎ (status ≡ TOO_SMALL) → ¬ (status ≡ NO_PREFIX)
given status (inl ok) is = let wrong : 0 ≡ 30 = sym ok ∙ is in absurd (omega (arith, wrong))
given status (inr small) is = let wrong : 17 ≡ 30 = sym small ∙ is in absurd (omega (arith, wrong))
