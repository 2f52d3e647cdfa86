-- A walk along a text that counts digits down, and what it finds: enough digits, and no letter before they are complete.
use Rattle.std.proofs.Common.{◌≡◌, ℕ, zero, suc, ◌+◌, ◌-◌, ◌<◌, ◌≤◌, Bool, true, false, cond, inl, inr, ◌==◌, ◌&&◌, ◌||◌, List, [], ◌∷◌, length, take, refl, ap, ◌∙◌, arith, eqb-true, eq-eqb}
use Rattle.std.proofs.lemmas.Bool.{and_from, and_parts, or_cases, or_left, or_right, cases_Bool, cond-true, cond-false}
use Rattle.std.proofs.lemmas.List.Sums.{sum_by-cons}
use Rattle.std.specs.List.{count_by, list_all, slice_index}

count_at : (p : ℕ → Bool) (c : ℕ) (cs : List ℕ) (b : Bool) → p c ≡ b → count_by p (c ∷ cs) ≡ cond b 1 0 + count_by p cs
count_at p c cs b e = sum_by-cons (λ x. cond (p x) 1 0) c cs ∙ ap (λ b. cond b 1 0 + count_by p cs) e

module _ (digit early letter : ℕ → Bool) (digit_early : (c : ℕ) → digit c ≡ true → early c ≡ true) where
  abbrev pub walk : ℕ → List ℕ → Bool
  walk n [] = n == 0
  walk n (c ∷ cs) = cond (digit c) (walk (n - 1) cs) ((early c || ((n == 0) && letter c)) && walk n cs)

  pub record Finds (n : ℕ) (t : List ℕ) : Type 0 where
    pub allowed : list_all (λ c. early c || letter c) t ≡ true
    pub digits : n ≤ count_by digit t
    pub no_early_letter : (k : ℕ) → k < length t → count_by digit (take k t) < n → early (slice_index t k) ≡ true

  early_digit : (n c : ℕ) (cs : List ℕ) → digit c ≡ true →
      ((k : ℕ) → k < length cs → count_by digit (take k cs) < n - 1 → early (slice_index cs k) ≡ true) →
      (k : ℕ) → k < length (c ∷ cs) → count_by digit (take k (c ∷ cs)) < n → early (slice_index (c ∷ cs) k) ≡ true
  early_digit n c cs d f zero small few = digit_early c d
  early_digit n c cs d f (suc k) small few = f k (omega arith) (omega (arith, count_at digit c (take k cs) true d, few))

  add_digit : (n c : ℕ) (cs : List ℕ) → digit c ≡ true → Finds (n - 1) cs → Finds n (c ∷ cs)
  add_digit n c cs d f = record {
    allowed = and_from _ _ (or_left _ _ (digit_early c d)) f.allowed;
    digits = omega (arith, count_at digit c cs true d, f.digits);
    no_early_letter = early_digit n c cs d f.no_early_letter;
  }

  early_other : (n c : ℕ) (cs : List ℕ) → digit c ≡ false → (0 < n → early c ≡ true) →
      ((k : ℕ) → k < length cs → count_by digit (take k cs) < n → early (slice_index cs k) ≡ true) →
      (k : ℕ) → k < length (c ∷ cs) → count_by digit (take k (c ∷ cs)) < n → early (slice_index (c ∷ cs) k) ≡ true
  early_other n c cs d e f zero small few = e few
  early_other n c cs d e f (suc k) small few = f k (omega arith) (omega (arith, count_at digit c (take k cs) false d, few))

  add_other : (n c : ℕ) (cs : List ℕ) → digit c ≡ false → (early c || ((n == 0) && letter c)) ≡ true → Finds n cs → Finds n (c ∷ cs)
  add_other n c cs d stands f = record {
    allowed = and_from _ _ (elim (or_cases (early c) _ stands) [
      | inl e ↦ or_left _ _ e
      | inr e ↦ or_right _ _ (and_parts (n == 0) _ e).1
    ]) f.allowed;
    digits = omega (arith, count_at digit c cs false d, f.digits);
    no_early_letter = early_other n c cs d (λ some. elim (or_cases (early c) _ stands) [
      | inl e ↦ e
      | inr e ↦ absurd (omega (arith, eqb-true n 0 (and_parts (n == 0) _ e).0, some))
    ]) f.no_early_letter;
  }

  pub finds_of_walk : (n : ℕ) (t : List ℕ) → walk n t ≡ true → Finds n t
  finds_of_walk n [] h = record {
    allowed = refl;
    digits = omega (arith, eqb-true n 0 h);
    no_early_letter = λ k small few. absurd (omega (arith, small));
  }
  finds_of_walk n (c ∷ cs) h = elim (cases_Bool (digit c)) [
    | inl d ↦ add_digit n c cs d (finds_of_walk (n - 1) cs (rw d at h))
    | inr d ↦ let both = and_parts (early c || ((n == 0) && letter c)) (walk n cs) (rw d at h) in
        add_other n c cs d both.0 (finds_of_walk n cs both.1)
  ]

  less_digit : (n c : ℕ) (cs : List ℕ) → digit c ≡ true → Finds n (c ∷ cs) → Finds (n - 1) cs
  less_digit n c cs d f = record {
    allowed = (and_parts (early c || letter c) _ f.allowed).1;
    digits = omega (arith, count_at digit c cs true d, f.digits);
    no_early_letter = λ k small few.
        f.no_early_letter (suc k) (omega arith) (omega (arith, count_at digit c (take k cs) true d, few));
  }

  less_other : (n c : ℕ) (cs : List ℕ) → digit c ≡ false → Finds n (c ∷ cs) → Finds n cs
  less_other n c cs d f = record {
    allowed = (and_parts (early c || letter c) _ f.allowed).1;
    digits = omega (arith, count_at digit c cs false d, f.digits);
    no_early_letter = λ k small few.
        f.no_early_letter (suc k) (omega arith) (omega (arith, count_at digit c (take k cs) false d, few));
  }

  stands : (n c : ℕ) (cs : List ℕ) → Finds n (c ∷ cs) → (early c || ((n == 0) && letter c)) ≡ true
  stands zero c cs f = (and_parts (early c || letter c) _ f.allowed).0
  stands (suc n) c cs f = or_left _ _ (f.no_early_letter 0 (omega arith) (omega arith))

  pub walk_of_finds : (n : ℕ) (t : List ℕ) → Finds n t → walk n t ≡ true
  walk_of_finds n [] f = eq-eqb n 0 (omega (arith, f.digits))
  walk_of_finds n (c ∷ cs) f = elim (cases_Bool (digit c)) [
    | inl d ↦ cond-true _ _ _ d ∙ walk_of_finds (n - 1) cs (less_digit n c cs d f)
    | inr d ↦ cond-false _ _ _ d ∙ and_from _ _ (stands n c cs f) (walk_of_finds n cs (less_other n c cs d f))
  ]
