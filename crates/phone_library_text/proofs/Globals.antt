-- What a global context is, told behind its plus sign.
use Rattle.std.proofs.Common.{◌≡◌, ◌↔◌, inr, ℕ, Bool, true, false, ◌==◌, IsTrue, List, [], ◌∷◌, refl, ap, sym, ◌∙◌, true≢false, eqb-true}
use Rattle.phone_parts.specs.Texts.{begins}
use Rattle.phone_library_text.specs.Contexts.{IsGlobal, are_global_digits}
use Rattle.phone_library_text.proofs.Decided.{Decided, decided_as, decided_true}

-- behind a plus sign
pub global_of_rest : (t rest : List ℕ) (b : Bool) → t ≡ 43 ∷ rest → b ≡ are_global_digits rest → IsTrue b ↔ IsGlobal t
global_of_rest t rest b e told =
    (λ h. record { rest = rest; whole = e; digits = sym told ∙ h }, λ g. told ∙ ap are_global_digits (same g) ∙ g.digits)
  where
    same : (g : IsGlobal t) → rest ≡ g.rest
    same g = tails rest g.rest (sym e ∙ g.whole)
      where
        tails : (a b : List ℕ) → 43 ∷ a ≡ 43 ∷ b → a ≡ b
        tails a b f = cc

-- a text that begins with none is not global
pub not_global : (t : List ℕ) → begins (λ c. c == 43) t ≡ false → ¬ (IsGlobal t)
not_global t none g = true≢false (sym (ap (begins (λ c. c == 43)) g.whole) ∙ none)

pub none_global : (t : List ℕ) → begins (λ c. c == 43) t ≡ false → IsTrue false ↔ IsGlobal t
none_global t none = (λ h. absurd (true≢false (sym h)), λ g. absurd (not_global t none g))

-- it is decided whether a text is global
pub decided_global : (t : List ℕ) → Decided (IsGlobal t)
decided_global [] = inr (not_global [] refl)
decided_global (c ∷ cs) = at (c == 43) refl
  where
    at : (b : Bool) → (c == 43) ≡ b → Decided (IsGlobal (c ∷ cs))
    at false e = inr (not_global (c ∷ cs) e)
    at true e =
        let iff = global_of_rest (c ∷ cs) cs (are_global_digits cs) (ap (λ x. x ∷ cs) (eqb-true c 43 e)) refl in
        decided_as (are_global_digits cs ≡ true) (IsGlobal (c ∷ cs)) iff.0 iff.1 (decided_true (are_global_digits cs))
