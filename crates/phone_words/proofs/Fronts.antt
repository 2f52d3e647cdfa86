-- What stands after a front of a text.
use Rattle.std.proofs.Common.{◌≡◌, ◌==◌, ◌++◌, ◌∷◌, ◌∙◌, [], ℕ, List, Option, Some, None, IfSome}
use Rattle.std.proofs.Common.{IsNone, ap, ap₂, refl, sym, inl, inr}
use Rattle.std.proofs.Common.{eq-eqb}
use Rattle.std.proofs.lemmas.Bool.{cases_Bool, eqb-true}
use Rattle.phone_words.specs.Rows.{Lent, after, text_in}

-- a front, and what stands after it
after_whole : (front rest : List ℕ) → after front (front ++ rest) ≡ Some rest
after_whole [] rest = refl
after_whole (c ∷ cs) rest = rw (eq-eqb c c refl) (after_whole cs rest)

-- a text that doesn't begin so
after_none : (front text : List ℕ) → ((rest : List ℕ) → ¬ (text ≡ front ++ rest)) →
    after front text ≡ None
after_none [] text h = absurd (h text refl)
after_none (c ∷ cs) [] h = refl
after_none (c ∷ cs) (d ∷ ds) h = elim (cases_Bool (c == d)) [
  | inl e ↦ rw e (after_none cs ds
      (λ rest q. h rest (ap₂ (λ x xs. x ∷ xs) (sym (eqb-true c d e)) q)))
  | inr n ↦ rw n refl
]

-- what is told to stand after a front is what the definition has
pub after_is : (front text : List ℕ) (r : Option Lent) →
    IfSome r (λ rest. text ≡ front ++ rest.now) →
    (IsNone r → (rest : List ℕ) → ¬ (text ≡ front ++ rest)) → text_in r ≡ after front text
after_is front text (Some rest) found none =
    sym (ap (after front) found ∙ after_whole front rest.now)
after_is front text None found none = sym (after_none front text (none refl))
