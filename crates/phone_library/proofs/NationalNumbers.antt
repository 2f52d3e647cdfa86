-- The zeros before the last of national digits, and the number after them.
use Rattle.std.proofs.Common.{◌≡◌, ◌==◌, ◌&&◌, ◌≤◌, ◌<◌, ◌-◌, ◌+◌, ◌^◌, ℕ, suc, Bool, true, false, cond, nat_lt, List, [], ◌∷◌, length, take, drop, Result, Ok, Err, MatchResult, eqb-true, refl, ap, ◌∙◌, arith}
use Rattle.std.proofs.lemmas.Bool.{cond-false, cond-true, le-ltb, lt-ltb}
use Rattle.phone_chars.specs.Cuts.{after_front}
use Rattle.phone_values.specs.Numbers.{National, leading_zeros, national_in, national_with, number_in}
use Rattle.phone_values.specs.declared.error.ParseError.{ParseError}
use Rattle.phone_values.specs.declared.error.ParseError.TheVariants.{TooLong}
use Rattle.phone_library.specs.Readings.{national_number}

-- without its zeros at the front
abbrev pub without_zeros : List ℕ → List ℕ
without_zeros ds = after_front (λ d. d == 48) ds

-- before the last one
abbrev before_last : List ℕ → List ℕ
before_last ds = take (length ds - 1) ds

before_last-more : (c d : ℕ) (ds : List ℕ) → before_last (c ∷ d ∷ ds) ≡ c ∷ before_last (d ∷ ds)
before_last-more c d ds =
    let counted : length (c ∷ d ∷ ds) - 1 ≡ suc (length (d ∷ ds) - 1) = omega arith in
    ap (λ n. take n (c ∷ d ∷ ds)) counted

last-more : (c d : ℕ) (ds : List ℕ) → drop (length (c ∷ d ∷ ds) - 1) (c ∷ d ∷ ds) ≡ drop (length (d ∷ ds) - 1) (d ∷ ds)
last-more c d ds =
    let counted : length (c ∷ d ∷ ds) - 1 ≡ suc (length (d ∷ ds) - 1) = omega arith in
    ap (λ n. drop n (c ∷ d ∷ ds)) counted

-- a text of zeros alone begins with one
zero_front : (c : ℕ) (ds : List ℕ) → without_zeros (c ∷ ds) ≡ [] → (c == 48) ≡ true
zero_front c ds h = at (c == 48) h
  where
    at : (b : Bool) → cond b (without_zeros ds) (c ∷ ds) ≡ [] → b ≡ true
    at true h = refl
    at false h = cc

zero_rest : (c : ℕ) (ds : List ℕ) → without_zeros (c ∷ ds) ≡ [] → without_zeros ds ≡ []
zero_rest c ds h = at (c == 48) h
  where
    at : (b : Bool) → cond b (without_zeros ds) (c ∷ ds) ≡ [] → without_zeros ds ≡ []
    at true h = h
    at false h = cc

-- the zeros of such a text before its last one, and that
zeros_alone : (ds : List ℕ) → 0 < length ds → without_zeros ds ≡ [] → leading_zeros (before_last ds) ≡ length ds - 1
zeros_alone [] some h = absurd (omega (arith, some))
zeros_alone (c ∷ []) some h = refl
zeros_alone (c ∷ d ∷ ds) some h =
    let again = zeros_alone (d ∷ ds) (omega arith) (zero_rest c (d ∷ ds) h) in
    let more : leading_zeros (before_last (d ∷ ds)) + 1 ≡ length (c ∷ d ∷ ds) - 1 = omega (arith, again) in
    ap leading_zeros (before_last-more c d ds) ∙ cond-true _ _ _ (zero_front c (d ∷ ds) h) ∙ more

zero_last : (ds : List ℕ) → 0 < length ds → without_zeros ds ≡ [] → drop (length ds - 1) ds ≡ 48 ∷ []
zero_last [] some h = absurd (omega (arith, some))
zero_last (c ∷ []) some h = ap (λ x. x ∷ []) (eqb-true c 48 (zero_front c [] h))
zero_last (c ∷ d ∷ ds) some h = last-more c d ds ∙ zero_last (d ∷ ds) (omega arith) (zero_rest c (d ∷ ds) h)

-- of another text all zeros at the front stand before the last digit
zeros_before : (ds : List ℕ) → ¬ (without_zeros ds ≡ []) → leading_zeros (before_last ds) ≡ leading_zeros ds
zeros_before [] other = refl
zeros_before (c ∷ []) other = at (c == 48) other
  where
    at : (b : Bool) → ¬ (cond b (without_zeros []) (c ∷ []) ≡ []) → 0 ≡ cond b (leading_zeros [] + 1) 0
    at true other = absurd (other refl)
    at false other = refl
zeros_before (c ∷ d ∷ ds) other = ap leading_zeros (before_last-more c d ds) ∙ at (c == 48) other (zeros_before (d ∷ ds))
  where
    at : (b : Bool) → ¬ (cond b (without_zeros (d ∷ ds)) (c ∷ d ∷ ds) ≡ []) →
        (¬ (without_zeros (d ∷ ds) ≡ []) → leading_zeros (before_last (d ∷ ds)) ≡ leading_zeros (d ∷ ds)) →
        cond b (leading_zeros (before_last (d ∷ ds)) + 1) 0 ≡ cond b (leading_zeros (d ∷ ds) + 1) 0
    at true other again = ap (λ n. n + 1) (again other)
    at false other again = refl

module _ (ds : List ℕ) (some : 2 ≤ length ds) (few : length ds ≤ 17) where
  abbrev counted : ℕ → Result National ParseError
  counted zeros = national_with zeros (number_in 64 (drop zeros ds))

  by_zeros : national_number ds ≡ counted (leading_zeros (before_last ds))
  by_zeros = cond-false _ _ _ (le-ltb (length ds) 2 some) ∙ cond-false _ _ _ (le-ltb 17 (length ds) few)

  read_zero : (n : ℕ) → n < 256 → national_with n (number_in 64 (48 ∷ [])) ≡ Ok (record { zeros = n; value = 0 })
  read_zero n fits = at (nat_lt n 256) (lt-ltb n 256 fits)
    where
      at : (b : Bool) → b ≡ true →
          cond {A = Result National ParseError} (b && true) (Ok (record { zeros = n; value = 0 })) (Err TooLong) ≡ Ok (record { zeros = n; value = 0 })
      at true h = refl
      at false h = cc

  -- zeros alone
  pub national_number-zeros : without_zeros ds ≡ [] → national_number ds ≡ Ok (record { zeros = length ds - 1; value = 0 })
  national_number-zeros h =
      let zeros = zeros_alone ds (omega (arith, some)) h in
      by_zeros ∙ ap counted zeros ∙ ap (λ t. national_with (length ds - 1) (number_in 64 t)) (zero_last ds (omega (arith, some)) h)
      ∙ read_zero (length ds - 1) (omega (arith, few))

  -- other digits
  pub national_number-other : ¬ (without_zeros ds ≡ []) → national_number ds ≡ national_in ds
  national_number-other other = by_zeros ∙ ap counted (zeros_before ds other)

-- a value that fits is never refused
pub fits_zero : (r : Result National ParseError) (n : ℕ) → MatchResult r (λ m. (0 < 2 ^ 56) × (m ≡ record { zeros = n; value = 0 })) (λ e. (2 ^ 56 ≤ 0) × (e ≡ TooLong)) → r ≡ Ok (record { zeros = n; value = 0 })
fits_zero (Ok m) n h = ap Ok h.1
fits_zero (Err e) n h = absurd (omega (arith, h.0))
