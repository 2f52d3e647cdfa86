-- What a test finds first in a list.
use Rattle.std.proofs.Common.{◌≡◌, ℕ, zero, suc, ◌<◌, length, get_or, arith, Bool, true, false, cond, ◌||◌, List, [], ◌∷◌, Option, None, Some, filter, refl, sym, ap, ◌∙◌, true≢false}
use Rattle.std.specs.List.{dedup, dedup_from, find, list_any}
use Rattle.std.specs.Option.{is_some}

-- among those that pass it stands first what stands first among all
pub find-filter : {X : Type 0} (p : X → Bool) (xs : List X) → find p (filter p xs) ≡ find p xs
find-filter p [] = refl
find-filter p (x ∷ xs) = step (p x) refl (find-filter p xs)
  where
    step : (b : Bool) → p x ≡ b → find p (filter p xs) ≡ find p xs → find p (cond b (x ∷ filter p xs) (filter p xs)) ≡ cond b (Some x) (find p xs)
    step true e f = ap (λ b. cond b (Some x) (find p (filter p xs))) e
    step false e f = f

-- it finds one just where one passes
pub is_some-find : {X : Type 0} (p : X → Bool) (xs : List X) → is_some (find p xs) ≡ list_any p xs
is_some-find p [] = refl
is_some-find p (x ∷ xs) = step (p x) (is_some-find p xs)
  where
    step : (b : Bool) → is_some (find p xs) ≡ list_any p xs → is_some (cond b (Some x) (find p xs)) ≡ (b || list_any p xs)
    step true f = refl
    step false f = f

-- it finds none where none passes
pub none_found : {X : Type 0} (p : X → Bool) (xs : List X) → list_any p xs ≡ false → find p xs ≡ None
none_found {X = X} p xs e = none (find p xs) (is_some-find p xs ∙ e)
  where
    none : (o : Option X) → is_some o ≡ false → o ≡ None
    none None e = refl
    none (Some x) e = absurd (true≢false e)

-- it finds the element at a place where that one passes, and none before it does
pub find_first : {X : Type 0} (p : X → Bool) (xs : List X) (i : ℕ) (x : X) → i < length xs → x ≡ get_or xs i x → p x ≡ true →
    ((k : ℕ) (d : X) → k < i → p (get_or xs k d) ≡ false) → find p xs ≡ Some x
find_first p [] i x h e passes before = absurd (omega arith)
find_first p (y ∷ ys) zero x h e passes before = ap (λ z. cond (p z) (Some z) (find p ys)) (sym e) ∙ ap (λ b. cond b (Some x) (find p ys)) passes
find_first p (y ∷ ys) (suc i) x h e passes before =
    ap (λ b. cond b (Some y) (find p ys)) (before 0 y (omega arith)) ∙ find_first p ys i x (omega arith) e passes (λ k d g. before (suc k) d (omega arith))

module _ {X : Type 0} (same : X → X → Bool) (p : X → Bool) (alike : (x y : X) → same x y ≡ true → p x ≡ p y) where
  find-dedup_from : (k : X) (xs : List X) → find p (dedup_from same k xs) ≡ find p (k ∷ xs)
  find-dedup_from k [] = refl
  find-dedup_from k (x ∷ xs) = step (same x k) refl (find-dedup_from k xs) (find-dedup_from x xs)
    where
      skip : (a b : Bool) → b ≡ a → cond a (Some k) (find p xs) ≡ cond a (Some k) (cond b (Some x) (find p xs))
      skip true b e = refl
      skip false true e = absurd (true≢false e)
      skip false false e = refl

      step : (b : Bool) → same x k ≡ b → find p (dedup_from same k xs) ≡ find p (k ∷ xs) → find p (dedup_from same x xs) ≡ find p (x ∷ xs) →
          find p (cond b (dedup_from same k xs) (k ∷ dedup_from same x xs)) ≡ find p (k ∷ (x ∷ xs))
      step true e f g = f ∙ skip (p k) (p x) (alike x k e)
      step false e f g = ap (λ o. cond (p k) (Some k) o) g

  -- the first of equal ones stays first, where equal ones pass alike
  pub find-dedup : (xs : List X) → find p (dedup same xs) ≡ find p xs
  find-dedup [] = refl
  find-dedup (x ∷ xs) = find-dedup_from x xs
