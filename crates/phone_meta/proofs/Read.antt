-- What is compiled beside the light table is refused as the light table's patterns are.
use Rattle.std.proofs.Common.{◌⊎◌, inl, inr, ◌≡◌, [], ◌∷◌, ◌++◌, Result, Ok, Err, IfErr, subst}
use Rattle.std.proofs.lemmas.Bool.{false≢true}
use Rattle.std.specs.Result.{IsOk}
use Rattle.phone_territory.specs.Refusals.{AreRead, IsPatternRefusal}
use Rattle.phone_pattern.proofs.Refused.{ArePatterns, Texts, refused-right}
use Rattle.phone_base.specs.declared.error.LoadMetadata.{LoadMetadata}

front-patterns : (ps qs : Texts) → ArePatterns (ps ++ qs) → ArePatterns ps
front-patterns [] qs h = tt
front-patterns (p ∷ ps) qs h = (h.0, front-patterns ps qs h.1)

-- what was made first read all these patterns; what is made of the latter of them is refused for one of all
pub refused-after : {A B : Type 0} (ps qs : Texts) (first : Result A LoadMetadata) (second : Result B LoadMetadata) (e : LoadMetadata) →
    AreRead (ps ++ qs) first → IfErr second (IsPatternRefusal qs) → (first ≡ Err e) ⊎ (IsOk first × (second ≡ Err e)) → IsPatternRefusal (ps ++ qs) e
refused-after ps qs first second e p q (inl is) = subst (λ r. IfErr r (IsPatternRefusal (ps ++ qs))) is p.1
refused-after ps qs (Ok a) second e p q (inr is) = refused-right ps qs e (front-patterns ps qs p.0) (subst (λ r. IfErr r (IsPatternRefusal qs)) is.1 q)
refused-after ps qs (Err x) second e p q (inr is) = absurd (false≢true is.0)
