-- The last place where a text stands in another.
use Rattle.std.proofs.Common.{◌≡◌, ◌||◌, ◌++◌, ◌≤◌, ◌<◌, Bool, ℕ, zero, suc, List, [], ◌∷◌, true, false, drop, take, length, refl, sym, ap, ap₂, ◌∙◌, arith}
use Rattle.std.proofs.lemmas.Bool.{cond-false, cond-true}
use Rattle.std.specs.Str.Pattern.{LacksTextAt}
use Rattle.phone_parts.proofs.Prefixes.{is_front-append, is_front-no}
use Rattle.phone_parts.specs.Texts.{is_front}
use Rattle.phone_keyed_parts.specs.Lines.{before_last, stands_in}

or_true : (b : Bool) → (b || true) ≡ true
or_true true = refl
or_true false = refl

-- a text that stands nowhere in another
stands_no : (p t : List ℕ) → ((i : ℕ) → i ≤ length t → LacksTextAt p t i) → stands_in p t ≡ false
stands_no p [] none = is_front-no p [] (none 0 (omega arith))
stands_no p (c ∷ cs) none =
    ap₂ (λ a b. a || b) (is_front-no p (c ∷ cs) (none 0 (omega arith))) (stands_no p cs (λ i h. none (suc i) (omega (arith, h))))

-- one that stands somewhere
stands_at : (p t : List ℕ) (i : ℕ) (rest : List ℕ) → drop i t ≡ p ++ rest → stands_in p t ≡ true
stands_at p [] zero rest e = ap (is_front p) e ∙ is_front-append p rest
stands_at p [] (suc i) rest e = ap (is_front p) e ∙ is_front-append p rest
stands_at p (c ∷ cs) zero rest e = ap (λ b. b || stands_in p cs) (ap (is_front p) e ∙ is_front-append p rest)
stands_at p (c ∷ cs) (suc i) rest e = ap (λ b. is_front p (c ∷ cs) || b) (stands_at p cs i rest e) ∙ or_true _

-- nothing comes before the last place of a text that stands nowhere
pub before_none : (p t : List ℕ) → ((i : ℕ) → i ≤ length t → LacksTextAt p t i) → [] ≡ before_last p t
before_none p [] none = refl
before_none p (c ∷ cs) none = sym (cond-false _ _ _ (stands_no p cs (λ i h. none (suc i) (omega (arith, h)))))

-- what comes before the last place
pub before_at : (p t : List ℕ) (i : ℕ) (rest : List ℕ) → drop i t ≡ p ++ rest → ((k : ℕ) → i < k → k ≤ length t → LacksTextAt p t k) →
    take i t ≡ before_last p t
before_at p [] zero rest e none = refl
before_at p [] (suc i) rest e none = refl
before_at p (c ∷ cs) zero rest e none = sym (cond-false _ _ _ (stands_no p cs (λ k h. none (suc k) (omega arith) (omega (arith, h)))))
before_at p (c ∷ cs) (suc i) rest e none =
    ap (λ xs. c ∷ xs) (before_at p cs i rest e (λ k a b. none (suc k) (omega (arith, a)) (omega (arith, b))))
    ∙ sym (cond-true _ _ _ (stands_at p cs i rest e))
