-- Lines with a carriage return at their end, and without.
use Rattle.std.proofs.Common.{◌≡◌, ℕ, List, [], ◌∷◌, ◌++◌, refl, ap, arith}
use Rattle.std.proofs.lemmas.Grind.{common_steps}
use Rattle.phone_lines.specs.Lines.{without_return}

pub without_return-cut : (front : List ℕ) → front ≡ without_return (front ++ 13 ∷ [])
without_return-cut [] = refl
without_return-cut (c ∷ []) = refl
without_return-cut (c ∷ d ∷ cs) = ap (λ t. c ∷ t) (without_return-cut (d ∷ cs))

pub without_return-kept : (front : List ℕ) (x : ℕ) → (x ≡ 13 → ⊥) → front ++ x ∷ [] ≡ without_return (front ++ x ∷ [])
without_return-kept [] x isnt = grind (arith, common_steps)
without_return-kept (c ∷ []) x isnt = grind (arith, common_steps)
without_return-kept (c ∷ d ∷ cs) x isnt = ap (λ t. c ∷ t) (without_return-kept (d ∷ cs) x isnt)
