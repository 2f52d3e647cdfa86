-- The part of a text in which a number may stand, from its core.
use Rattle.std.proofs.Common.{◌≡◌, ℕ, Bor, List, [], Option, None, Some, MatchOption, chars, subst}
use Rattle.phone_parts.specs.Cores.{IsCore}
use Rattle.phone_c_questions.specs.Letters
use Rattle.phone_c_questions.specs.Letters.{IsExtracted}

module _ (t : List ℕ) (o : Option (Bor (List ℕ))) where
  abbrev IsTold : Option (Bor (List ℕ)) → Type 0
  IsTold found = MatchOption found ((core : List ℕ) → ¬ (IsCore (chars t) core)) (λ core. IsCore (chars t) (chars core.now))

  pub part_some : (x : Bor (List ℕ)) → o ≡ Some x →
      MatchOption o ((core : List ℕ) → ¬ (IsCore (chars t) core)) (λ core. IsCore (chars t) (chars core.now)) → IsExtracted t x.now
  part_some x e told = Letters.core x.now (subst IsTold e told)

  pub part_none : o ≡ None →
      MatchOption o ((core : List ℕ) → ¬ (IsCore (chars t) core)) (λ core. IsCore (chars t) (chars core.now)) → IsExtracted t []
  part_none e told = Letters.none (subst IsTold e told)
