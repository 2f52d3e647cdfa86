-- Numbers whose decimal texts begin those of others.
use Rattle.std.proofs.Common.{◌≡◌, ◌≢◌, ◌⊎◌, inl, inr, ℕ, zero, suc, ◌+◌, ◌<◌, ◌≤◌, ◌/◌, ◌%◌, ◌^◌, ◌==◌, not, true, false, List, [], ◌∷◌, ◌++◌, length, take, refl, ap, sym, subst, ◌∙◌, arith, ne_eqb, length-append}
use Rattle.std.proofs.Math.Seq.{take-append_seam}
use Rattle.std.proofs.lemmas.Bool.{and_from, and_parts, cases_eq, cases_lt, false_from_ne_true, false≢true}
use Rattle.std.proofs.lemmas.Bool.Decides.{same_from_decides, nat_tests}
use Rattle.std.proofs.lemmas.Fmt.{decimal_digit, decimal_injective, decimal_nonempty, decimal_step}
use Rattle.std.proofs.lemmas.List.{take-append-le, length-take, take_all}
use Rattle.std.proofs.lemmas.Slice.Eq.{bytes_eq-Decides}
use Rattle.std.specs.Bool.{Decides}
use Rattle.std.specs.Fmt.{decimal}
use Rattle.phone_index.specs.ListedCodes.{begins}
use Rattle.phone_index.specs.Nodes.{IsFront, same, longer}

-- the text of a begins that of n, another number
abbrev IsBeginning : ℕ → ℕ → Type 0
IsBeginning a n = (a ≢ n) × (take (length (decimal a)) (decimal n) ≡ decimal a)

begins-Decides : (a n : ℕ) → Decides (begins a n) (IsBeginning a n)
unfolding begins
begins-Decides a n = (
  (λ t. let both = and_parts (not (a == n)) _ t in ((λ e. not_self n (subst (λ b. not (b == n) ≡ true) e both.0)), (bytes_eq-Decides _ _).0 both.1)),
  (λ h. and_from (not (a == n)) _ (ap not (ne_eqb a n h.0)) ((bytes_eq-Decides _ _).1 h.1)),
)
  where
    not_self : (n : ℕ) → not (n == n) ≡ true → ⊥
    not_self n t = grind (arith, nat_tests, t)

module _ (a n : ℕ) (a_small : a < 2 ^ 64) (n_small : n < 2 ^ 64) where
  -- a digit has no beginning
  begins-digit : n < 10 → begins a n ≡ false
  begins-digit digit = false_from_ne_true _ (λ t.
      let h = (begins-Decides a n).0 t in
      let some : 0 < length (decimal a) = decimal_nonempty a a_small in
      let one : decimal n ≡ (48 + n) ∷ [] = decimal_digit n digit in
      let short : length (decimal n) ≤ length (decimal a) = rw one (omega (arith, some)) in
      h.0 (decimal_injective a n a_small n_small (sym h.1 ∙ take_all _ (decimal n) short)))

  module _ (large : 10 ≤ n) where
    abbrev front : List ℕ
    front = decimal (n / 10)

    abbrev last : List ℕ
    last = (48 + n % 10) ∷ []

    parted : decimal n ≡ front ++ last
    parted = decimal_step n large n_small

    counted : length (decimal n) ≡ length front + 1
    counted = ap length parted ∙ length-append front last

    -- a number without its last digit begins it
    begins-front : n / 10 ≡ a → begins a n ≡ true
    begins-front e = (begins-Decides a n).1 ((λ e'. absurd (smaller (e ∙ e'))), starts)
      where
        smaller : n / 10 ≡ n → ⊥
        smaller e = omega (arith, large, e)

        starts : take (length (decimal a)) (decimal n) ≡ decimal a
        starts = subst (λ m. take (length (decimal m)) (decimal n) ≡ decimal m) e (ap (take (length front)) parted ∙ take-append_seam front last)

    -- what begins it otherwise begins what is left
    begins-rest : n / 10 ≢ a → begins a n ≡ begins a (n / 10)
    begins-rest other = same_from_decides _ _ (begins-Decides a n)
        ((λ t. let h = (begins-Decides a (n / 10)).0 t in wider h), (λ h. (begins-Decides a (n / 10)).1 ((λ e. other (sym e)), narrower (cases_lt (length front) (length (decimal a))) h)))
      where
        wider : IsBeginning a (n / 10) → IsBeginning a n
        wider h =
            let fits : length (decimal a) ≤ length front = omega (arith, ap length (sym h.1) ∙ length-take (length (decimal a)) front) in (
              (λ e. let same : length (decimal a) ≡ length front + 1 = ap (λ m. length (decimal m)) e ∙ counted in absurd (omega (arith, same, fits))),
              ap (take (length (decimal a))) parted ∙ take-append-le (length (decimal a)) front last fits ∙ h.1,
            )

        narrower : (length front < length (decimal a)) ⊎ (length (decimal a) ≤ length front) → IsBeginning a n → take (length (decimal a)) front ≡ decimal a
        narrower (inr fits) h = sym (take-append-le (length (decimal a)) front last fits) ∙ ap (take (length (decimal a))) (sym parted) ∙ h.1
        narrower (inl more) h =
            let all : length (decimal n) ≤ length (decimal a) = rw counted (omega (arith, more)) in
            absurd (h.0 (decimal_injective a n a_small n_small (sym h.1 ∙ take_all _ (decimal n) all)))

-- only 0 is in front of 0
pub front_of_0 : (a n : ℕ) → n ≡ 0 → IsFront a n → a ≡ 0
front_of_0 a n e same = e
front_of_0 a n e (longer {m = m} f h) = front_of_0 a m (omega (arith, e, f)) h

-- one turn of what follows
front_of_rest : (a n : ℕ) → a < 2 ^ 64 → n < 2 ^ 64 → (n / 10 < n → begins a (n / 10) ≡ true → (0 < a) × IsFront a (n / 10)) → begins a n ≡ true → (0 < a) × IsFront a n
front_of_rest a n a_small n_small rest t = by_size (cases_lt n 10)
  where
    by_size : (n < 10) ⊎ (10 ≤ n) → (0 < a) × IsFront a n
    by_size (inl digit) = absurd (false≢true (sym (begins-digit a n a_small n_small digit) ∙ t))
    by_size (inr large) = by_front (cases_eq (n / 10) a)
      where
        by_front : (n / 10 ≡ a) ⊎ (n / 10 ≢ a) → (0 < a) × IsFront a n
        by_front (inl e) = (omega (arith, e, large), longer (sym e) same)
        by_front (inr other) =
            let h = rest (omega (arith, large)) (sym (begins-rest a n a_small n_small large other) ∙ t) in
            (h.0, longer refl h.1)

front_below : (bound a n : ℕ) → n < bound → a < 2 ^ 64 → n < 2 ^ 64 → begins a n ≡ true → (0 < a) × IsFront a n
front_below zero a n less a_small n_small t = absurd (omega (arith, less))
front_below (suc bound) a n less a_small n_small t =
    front_of_rest a n a_small n_small (λ fell. front_below bound a (n / 10) (omega (arith, less, fell)) a_small (omega (arith, n_small, fell))) t

-- a number that begins another is in front of it, and neither 0 nor the other
pub front_from_begins : (a n : ℕ) → a < 2 ^ 64 → n < 2 ^ 64 → begins a n ≡ true → (0 < a) × (a ≢ n) × IsFront a n
front_from_begins a n a_small n_small t =
    let h = front_below (suc n) a n (omega arith) a_small n_small t in
    (h.0, ((begins-Decides a n).0 t).0, h.1)

-- one turn of what follows
begins_of_rest : (a n : ℕ) → 0 < a → a < 2 ^ 64 → n < 2 ^ 64 → IsFront a (n / 10) → (a ≢ n / 10 → begins a (n / 10) ≡ true) → begins a n ≡ true
begins_of_rest a n some a_small n_small h rest = by_size (cases_lt n 10)
  where
    by_size : (n < 10) ⊎ (10 ≤ n) → begins a n ≡ true
    by_size (inl digit) = let e : a ≡ 0 = front_of_0 a (n / 10) (omega (arith, digit)) h in absurd (omega (arith, e, some))
    by_size (inr large) = by_front (cases_eq (n / 10) a)
      where
        by_front : (n / 10 ≡ a) ⊎ (n / 10 ≢ a) → begins a n ≡ true
        by_front (inl e) = begins-front a n a_small n_small large e
        by_front (inr other) = begins-rest a n a_small n_small large other ∙ rest (λ e. other (sym e))

-- the converse
pub begins_from_front : (a n : ℕ) → 0 < a → a < 2 ^ 64 → n < 2 ^ 64 → a ≢ n → IsFront a n → begins a n ≡ true
begins_from_front a n some a_small n_small other same = absurd (other refl)
begins_from_front a n some a_small n_small other (longer {m = m} e h) =
    let rest : a ≢ m → begins a m ≡ true = λ o. begins_from_front a m some a_small (omega (arith, e, n_small)) o h in
    begins_of_rest a n some a_small n_small (subst (IsFront a) e h) (subst (λ k. a ≢ k → begins a k ≡ true) e rest)

-- what is in front of a number that is in front
pub front_trans : {a b n : ℕ} → IsFront a b → IsFront b n → IsFront a n
front_trans h same = h
front_trans h (longer e g) = longer e (front_trans h g)

-- a number in front of another is that of one digit less than one that is in front too
pub front_split : (a n : ℕ) → IsFront a n → a ≢ n → (m : ℕ) × (a ≡ m / 10) × IsFront m n
front_split a n same other = absurd (other refl)
front_split a n (longer {m = m} e h) other = step (cases_eq a m) (λ o. front_split a m h o)
  where
    step : (a ≡ m) ⊎ (a ≢ m) → (a ≢ m → (k : ℕ) × (a ≡ k / 10) × IsFront k m) → (k : ℕ) × (a ≡ k / 10) × IsFront k n
    step (inl same') rest = (n, same' ∙ e, same)
    step (inr other') rest = let r = rest other' in (r.0, r.1, longer e r.2)

-- what is in front is at most as large
pub front_le : (a n : ℕ) → IsFront a n → a ≤ n
front_le a n same = omega arith
front_le a n (longer {m = m} e h) = omega (arith, e, front_le a m h)
