-- The part of a list that passes a test, where nothing before or after it does.
use native.Mathlib.Numerals.{unary_clauses}
use Rattle.std.proofs.Common.{◌≡◌, ℕ, zero, suc, ◌-◌, ◌≤◌, ◌<◌, Bool, true, false, cond, List, [], ◌∷◌, length, take, drop, filter, refl, sym, ap, ◌∙◌, arith, ◌==◌, ltb, leb, ne_eqb, eq-eqb, ltb-true, leb-true, ◌+◌}
use Rattle.std.proofs.lemmas.Bool.{false_from_ne_true, le-leb, ltb-false, leb-false}
use Rattle.std.specs.List.{AllWithin}
use Rattle.std.specs.List.Sorted.{IsPartitionPoint}

-- what stands from i to j, where each element there passes, and none before or after it
pub filter_between : {X : Type 0} (p : X → Bool) (xs : List X) (i j : ℕ) → i ≤ j → j ≤ length xs →
    AllWithin (λ x. p x ≡ false) xs 0 i → AllWithin (λ x. p x ≡ true) xs i j → AllWithin (λ x. p x ≡ false) xs j (length xs) →
    take (j - i) (drop i xs) ≡ filter p xs
filter_between p [] zero zero _ _ before in_it after = refl
filter_between p [] zero (suc j) _ h before in_it after = absurd (omega arith)
filter_between p [] (suc i) j g h before in_it after = absurd (omega arith)
filter_between p (x ∷ xs) (suc i) zero g h before in_it after = absurd (omega arith)
filter_between p (x ∷ xs) zero zero g h before in_it after =
    filter_between p xs zero zero (omega arith) (omega arith) (λ k d a b. absurd (omega arith)) (λ k d a b. absurd (omega arith)) (λ k d a b. after (suc k) d (omega arith) (omega arith))
    ∙ sym (ap (λ b. cond b (x ∷ filter p xs) (filter p xs)) (after 0 x (omega arith) (omega arith)))
filter_between p (x ∷ xs) zero (suc j) g h before in_it after =
    let rest = filter_between p xs zero j (omega arith) (omega arith) (λ k d a b. absurd (omega arith)) (λ k d a b. in_it (suc k) d (omega arith) (omega arith)) (λ k d a b. after (suc k) d (omega arith) (omega arith)) in
    simp unary_clauses (ap (λ t. x ∷ t) (simp unary_clauses at rest)
    ∙ sym (ap (λ b. cond b (x ∷ filter p xs) (filter p xs)) (in_it 0 x (omega arith) (omega arith))))
filter_between p (x ∷ xs) (suc i) (suc j) g h before in_it after =
    simp unary_clauses (filter_between p xs i j (omega arith) (omega arith) (λ k d a b. before (suc k) d (omega arith) (omega arith)) (λ k d a b. in_it (suc k) d (omega arith) (omega arith)) (λ k d a b. after (suc k) d (omega arith) (omega arith))
    ∙ sym (ap (λ b. cond b (x ∷ filter p xs) (filter p xs)) (before 0 x (omega arith) (omega arith))))

module _ {X : Type 0} (n : X → ℕ) (t : ℕ) (xs : List X) (i j : ℕ) (within : i ≤ length xs) (to_end : j ≤ length xs)
    (below : IsPartitionPoint (λ y. ltb (n y) t ≡ true) (λ y. ltb (n y) t ≡ false) xs i)
    (up_to : IsPartitionPoint (λ y. leb (n y) t ≡ true) (λ y. leb (n y) t ≡ false) xs j) where
  not_before : (x : X) → j < i → ⊥
  not_before x h =
      omega (arith, ltb-true _ _ (below.0 j x (omega arith) h), leb-false _ _ (up_to.1 j x (omega arith) (omega arith)))

  -- numbers less than t end no later than those of at most t
  pub ends_in_order : i ≤ j
  ends_in_order = by xs refl (ltb j i) refl
    where
      by : (ys : List X) → xs ≡ ys → (b : Bool) → ltb j i ≡ b → i ≤ j
      by ys e false h = ltb-false j i h
      by [] e true h = absurd (omega (arith, ap length e, ltb-true j i h))
      by (y ∷ ys) e true h = absurd (not_before y (ltb-true j i h))

  -- what stands between these ends is what has t
  pub run_between : take (j - i) (drop i xs) ≡ filter (λ y. n y == t) xs
  run_between =
      filter_between _ xs i j ends_in_order to_end
      (λ k d a b. ne_eqb _ _ (λ e. less _ (below.0 k d a b) e))
      (λ k d a b. eq-eqb _ _ (same _ (up_to.0 k d (omega arith) b) (below.1 k d a (omega arith))))
      (λ k d a b. ne_eqb _ _ (λ e. more _ (up_to.1 k d a b) e))
    where
      less : (m : ℕ) → ltb m t ≡ true → m ≡ t → ⊥
      less m h e = omega (arith, ltb-true m t h)

      same : (m : ℕ) → leb m t ≡ true → ltb m t ≡ false → m ≡ t
      same m g h = omega (arith, leb-true m t g, ltb-false m t h)

      more : (m : ℕ) → leb m t ≡ false → m ≡ t → ⊥
      more m h e = omega (arith, leb-false m t h)

-- numbers less than the next one are those of at most t
pub up_to_next : {X : Type 0} (n : X → ℕ) (t : ℕ) (xs : List X) (j : ℕ) →
    IsPartitionPoint (λ y. ltb (n y) (t + 1) ≡ true) (λ y. ltb (n y) (t + 1) ≡ false) xs j →
    IsPartitionPoint (λ y. leb (n y) t ≡ true) (λ y. leb (n y) t ≡ false) xs j
up_to_next n t xs j p = (
  (λ k d a b. le-leb _ _ (omega (arith, ltb-true _ _ (p.0 k d a b)))),
  (λ k d a b. false_from_ne_true _ (λ e. omega (arith, leb-true _ _ e, ltb-false _ _ (p.1 k d a b)))),
)
