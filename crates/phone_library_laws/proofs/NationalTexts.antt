-- The text of a national number of 2 to 17 digits is read as the number, be it of zeros alone.
use Rattle.std.proofs.Common.{◌≡◌, inl, inr, ℕ, zero, suc, ◌+◌, ◌-◌, ◌<◌, ◌≤◌, ◌^◌, ◌==◌, ◌&&◌, ◌++◌, nat_lt, Bool, true, false, if◌then◌else◌, List, [], ◌∷◌, length, take, drop, replicate, get_or, Result, Ok, Err, refl, ap, sym, ◌∙◌, arith, add-one, ne_eqb, lt-ltb, length-append, true≢false}
use Rattle.std.proofs.lemmas.Bool.{cases_lt, cond-false, le-ltb}
use Rattle.std.proofs.lemmas.List.{length-replicate}
use Rattle.std.proofs.lemmas.Fmt.{decimal_digit, decimal_nonempty, first_decimal}
use Rattle.std.specs.Fmt.{decimal}
use Rattle.std.specs.List.{list_all}
use Rattle.phone_values.proofs.Digits.{after_zeros}
use Rattle.phone_values.specs.Nsn.{nsn}
use Rattle.phone_values.specs.declared.error.ParseError.{ParseError}
use Rattle.phone_values.specs.declared.error.ParseError.TheVariants.{TooLong, TooShortNsn}
use Rattle.phone_values.specs.Numbers.{IsHeld, National, leading_zeros, national_with, number_in, text_of}
use Rattle.phone_library.specs.Readings.{national_number}
use Rattle.phonenumber.proofs.BackCodes.{number_in-decimal}

-- of digits that begin with no zero, or are one, none is a leading zero before the last
no_leading : (ds : List ℕ) → 48 < get_or ds 0 0 → leading_zeros (take (length ds - 1) ds) ≡ 0
no_leading [] h = refl
no_leading (c ∷ []) h = refl
no_leading (c ∷ d ∷ ds) h =
    let counted : length (c ∷ d ∷ ds) - 1 ≡ suc (length ds) = omega arith in
    ap (λ j. leading_zeros (take j (c ∷ d ∷ ds))) counted ∙ cond-false (c == 48) _ _ (ne_eqb c 48 (omega (arith, h)))

-- zeros before such digits are the leading ones
zeros_before : (z k : ℕ) (ds : List ℕ) → leading_zeros (take k ds) ≡ 0 → leading_zeros (take (z + k) (replicate z 48 ++ ds)) ≡ z
zeros_before zero k ds h = let same : zero + k ≡ k = omega arith in ap (λ j. leading_zeros (take j ds)) same ∙ h
zeros_before (suc z) k ds h =
    let same : suc z + k ≡ suc (z + k) = omega arith in
    ap (λ j. leading_zeros (take j (replicate (suc z) 48 ++ ds))) same ∙ ap (λ j. j + 1) (zeros_before z k ds h) ∙ add-one z

module _ (n : National) (held : IsHeld n) where
  abbrev digits : List ℕ
  digits = decimal n.value

  abbrev text : List ℕ
  text = text_of n

  fits : n.value < 2 ^ 64
  fits = omega (arith, held.1)

  no_leading_digits : leading_zeros (take (length digits - 1) digits) ≡ 0
  no_leading_digits = elim (cases_lt 0 n.value) [
    | inl some ↦ no_leading digits (first_decimal n.value some fits)
    | inr none ↦ (let nothing : n.value ≡ 0 = omega (arith, none) in
        let zero_alone : digits ≡ 48 ∷ [] = ap decimal nothing ∙ decimal_digit 0 (omega arith) in
        ap (λ ds. leading_zeros (take (length ds - 1) ds)) zero_alone)
  ]

  counted : length text - 1 ≡ n.zeros + (length digits - 1)
  counted =
      let zeros : List ℕ = replicate n.zeros 48 in
      omega (arith, length-append zeros digits, length-replicate {A = ℕ} n.zeros 48, decimal_nonempty n.value fits)

  leading : leading_zeros (take (length text - 1) text) ≡ n.zeros
  leading = ap (λ j. leading_zeros (take j text)) counted ∙ zeros_before n.zeros (length digits - 1) digits no_leading_digits

  abbrev with : ℕ → List ℕ → Result National ParseError
  with z ds = national_with z (number_in 64 ds)

  pub national_number-text_of : 2 ≤ length text → length text ≤ 17 → national_number text ≡ Ok n
  national_number-text_of long short =
      cond-false _ _ _ (le-ltb (length text) 2 long)
      ∙ cond-false _ _ _ (le-ltb 17 (length text) short)
      ∙ ap (λ z. with z (drop z text)) leading
      ∙ ap (with n.zeros) (sym (after_zeros n.zeros digits))
      ∙ ap (national_with n.zeros) (number_in-decimal 64 n.value fits fits)
      ∙ rw (lt-ltb n.zeros 256 held.0, lt-ltb n.value (2 ^ 56) held.1)

-- the leading zeros are counted but for the last digit: that makes no difference where a digit isn't 0
pub leading_all : (t : List ℕ) → list_all (λ d. d == 48) t ≡ false → leading_zeros (take (length t - 1) t) ≡ leading_zeros t
leading_all [] h = refl
leading_all (c ∷ []) h = at (c == 48) h
  where
    at : (b : Bool) → (b && true) ≡ false → 0 ≡ (if b then leading_zeros [] + 1 else 0)
    at true e = absurd (true≢false e)
    at false e = refl
leading_all (c ∷ d ∷ ds) h =
    let counted : length (c ∷ d ∷ ds) - 1 ≡ suc (length (d ∷ ds) - 1) = omega arith in
    ap (λ j. leading_zeros (take j (c ∷ d ∷ ds))) counted ∙ at (c == 48) h (leading_all (d ∷ ds))
  where
    at : (b : Bool) → (b && list_all (λ x. x == 48) (d ∷ ds)) ≡ false →
        (list_all (λ x. x == 48) (d ∷ ds) ≡ false → leading_zeros (take (length (d ∷ ds) - 1) (d ∷ ds)) ≡ leading_zeros (d ∷ ds)) →
        (if b then leading_zeros (take (length (d ∷ ds) - 1) (d ∷ ds)) + 1 else 0) ≡ (if b then leading_zeros (d ∷ ds) + 1 else 0)
    at true e later = ap (λ j. j + 1) (later e)
    at false e later = refl

-- then a text is read as by the first reading
pub national_number-nsn : (t : List ℕ) → list_all (λ d. d == 48) t ≡ false → nsn t ≡ national_number t
national_number-nsn t h =
    ap (λ z. if nat_lt (length t) 2 then Err TooShortNsn else if nat_lt 17 (length t) then Err TooLong else national_with z (number_in 64 (drop z t)))
    (sym (leading_all t h))
