-- National numbers and their texts: each is found again from the other.
use Rattle.std.proofs.Common.{◌≡◌, ◌≢◌, ℕ, zero, suc, ◌+◌, ◌++◌, get_or, replicate, arith, add-one, ◌^◌, ◌<◌, ◌≤◌, Bool, true, false, cond, ◌==◌, nat_le, inl, inr, List, [], ◌∷◌, length, drop, ap, ap₂, sym, subst, ◌∙◌, Some, Ok, refl, lt-ltb, eqb-true, length-append}
use Rattle.std.proofs.lemmas.Bool.{and_parts, eqb-false, leb-true, cases_lt}
use Rattle.std.proofs.lemmas.Fmt.{first_decimal, decimal_nonempty, decimal_injective, decimal-digits_value, decimal_digit}
use Rattle.std.proofs.lemmas.List.{length-replicate, append_cancel_left}
use Rattle.std.proofs.lemmas.Str.{digit_value_digit}
use Rattle.std.proofs.lemmas.Str.Parse.{without_leading_plus_none, digit_from_value, numerals_by_value, tells_digits}
use Rattle.std.specs.Fmt.{decimal}
use Rattle.std.specs.Char.{digit_value, is_ascii_digit}
use Rattle.std.specs.List.{list_all}
use Rattle.std.specs.Str.Parse.{AllDigits, digits_value, without_leading_plus}
use Rattle.phone_values.specs.Numbers.{National, IsHeld, packed, leading_zeros, number_in, national_in, text_of}
use Rattle.phone_values.proofs.Digits.{number_some, national_in_parts, zeros_then}

-- a text parted behind the zeros at its front
pub record IsAfterZeros (t : List ℕ) (n : ℕ) (ds : List ℕ) : Type 0 where
  pub whole : t ≡ replicate n 48 ++ ds
  pub value : digits_value 10 t ≡ digits_value 10 ds
  pub digits : AllDigits 10 t → AllDigits 10 ds
  pub first : get_or ds 0 0 ≢ 48

zero_before : (c : ℕ) (cs ds : List ℕ) (n : ℕ) → c ≡ 48 → IsAfterZeros cs n ds → IsAfterZeros (c ∷ cs) (suc n) ds
zero_before c cs ds n e h = record {
  whole = ap₂ (λ c cs. c ∷ cs) e h.whole;
  value = ap (λ c. digits_value 10 (c ∷ cs)) e ∙ h.value;
  digits = λ d. h.digits d.1;
  first = h.first;
}

after_zeros_step : (c : ℕ) (cs : List ℕ) (b : Bool) → (c == 48) ≡ b → IsAfterZeros cs (leading_zeros cs) (drop (leading_zeros cs) cs) →
    IsAfterZeros (c ∷ cs) (cond b (leading_zeros cs + 1) 0) (drop (cond b (leading_zeros cs + 1) 0) (c ∷ cs))
after_zeros_step c cs true e h =
    subst (λ n. IsAfterZeros (c ∷ cs) n (drop n (c ∷ cs))) (sym (add-one (leading_zeros cs)))
    (zero_before c cs (drop (leading_zeros cs) cs) (leading_zeros cs) (eqb-true c 48 e) h)
after_zeros_step c cs false e h = record { whole = refl; value = refl; digits = λ d. d; first = eqb-false c 48 e }

pub after_zeros_of : (t : List ℕ) → IsAfterZeros t (leading_zeros t) (drop (leading_zeros t) t)
after_zeros_of [] = record { whole = refl; value = refl; digits = λ d. d; first = λ e. absurd (omega (arith, e)) }
after_zeros_of (c ∷ cs) = after_zeros_step c cs (c == 48) refl (after_zeros_of cs)

digit_below : (c : ℕ) → is_ascii_digit c ≡ true → digit_value c < 10
digit_below c h =
    let both = and_parts (nat_le 48 c) (nat_le c 57) h in
    omega (arith, digit_value_digit c (leb-true 48 c both.0, leb-true c 57 both.1), leb-true c 57 both.1)

pub all_digits : (t : List ℕ) → list_all is_ascii_digit t ≡ true → AllDigits 10 t
all_digits [] h = tt
all_digits (c ∷ cs) h = let both = and_parts (is_ascii_digit c) (list_all is_ascii_digit cs) h in (digit_below c both.0, all_digits cs both.1)

some_of_value : (ds : List ℕ) → 0 < digits_value 10 ds → 0 < length ds
some_of_value [] h = absurd (omega (arith, h))
some_of_value (d ∷ ds) h = omega arith

no_plus : (ds : List ℕ) → AllDigits 10 ds → get_or ds 0 0 ≢ 43
no_plus [] h e = absurd (omega (arith, e))
no_plus (d ∷ ds) h e = let r = digit_from_value d h.0 in absurd (omega (arith, r.0, e))

module _ (t : List ℕ) (digits : list_all is_ascii_digit t ≡ true) (few : leading_zeros t < 256)
    (some : 0 < digits_value 10 t) (below : digits_value 10 t < 2 ^ 56) where
  pub text_is_read : national_in t ≡ Ok (record { zeros = leading_zeros t; value = digits_value 10 t })
  text_is_read =
      let parts = after_zeros_of t in
      let ds = drop (leading_zeros t) t in
      let all : AllDigits 10 ds = parts.digits (all_digits t digits) in
      let plain : without_leading_plus ds ≡ ds = without_leading_plus_none ds (no_plus ds all) in
      let nonempty : 0 < length ds = some_of_value ds (omega (arith, some, parts.value)) in
      let read : number_in 64 ds ≡ Some (digits_value 10 t) =
      number_some 64 ds (digits_value 10 t) (rw plain (((nonempty, all), omega (arith, below, parts.value)), parts.value)) in
      sym (national_in_parts t ds (leading_zeros t) (Some (digits_value 10 t)) refl refl read)
      ∙ rw (lt-ltb (leading_zeros t) 256 few, lt-ltb (digits_value 10 t) (2 ^ 56) below)

  pub text_is_printed : text_of (record { zeros = leading_zeros t; value = digits_value 10 t }) ≡ t
  text_is_printed =
      let parts = after_zeros_of t in
      let ds = drop (leading_zeros t) t in
      let all : AllDigits 10 ds = parts.digits (all_digits t digits) in
      let nonempty : 0 < length ds = some_of_value ds (omega (arith, some, parts.value)) in
      let printed : decimal (digits_value 10 ds) ≡ ds =
      decimal-digits_value (numerals_by_value _ tells_digits) ds all nonempty (λ e. absurd (parts.first e)) (omega (arith, below, parts.value)) in
      ap (λ v. replicate (leading_zeros t) 48 ++ decimal v) parts.value
      ∙ ap (λ cs. replicate (leading_zeros t) 48 ++ cs) printed ∙ sym parts.whole

zeros_alone : (n : ℕ) → leading_zeros (replicate n 48 ++ 48 ∷ []) ≡ n + 1
zeros_alone zero = refl
zeros_alone (suc n) = ap (λ m. m + 1) (zeros_alone n) ∙ ap (λ m. m + 1) (add-one n)

length-text_of : (n : National) → length (text_of n) ≡ n.zeros + length (decimal n.value)
length-text_of n = omega (arith, length-append (replicate n.zeros 48) (decimal n.value), length-replicate {A = ℕ} n.zeros 48)

zeros_if_some : (n : National) → IsHeld n → 0 < n.value → leading_zeros (text_of n) ≡ n.zeros
zeros_if_some n held some = zeros_then n.zeros (decimal n.value) (first_decimal n.value some (omega (arith, held.1)))

zeros_if_none : (n : National) → n.value ≤ 0 → leading_zeros (text_of n) ≡ n.zeros + 1
zeros_if_none n none =
    let e : n.value ≡ 0 = omega (arith, none) in
    ap (λ v. leading_zeros (replicate n.zeros 48 ++ decimal v)) e
    ∙ ap (λ ds. leading_zeros (replicate n.zeros 48 ++ ds)) (decimal_digit 0 (omega arith)) ∙ zeros_alone n.zeros

length_if_none : (n : National) → n.value ≤ 0 → length (text_of n) ≡ n.zeros + 1
length_if_none n none =
    let e : n.value ≡ 0 = omega (arith, none) in
    let one : length (decimal n.value) ≡ 1 = ap (λ v. length (decimal v)) e ∙ ap length (decimal_digit 0 (omega arith)) in
    omega (arith, length-text_of n, one)

-- one of the two is 0 and the other isn't: then the texts differ
text_of-not_none : (a b : National) → IsHeld a → 0 < a.value → b.value ≤ 0 → ¬ (text_of a ≡ text_of b)
text_of-not_none a b held some none e =
    let front : a.zeros ≡ b.zeros + 1 = sym (zeros_if_some a held some) ∙ ap leading_zeros e ∙ zeros_if_none b none in
    let all : length (text_of a) ≡ b.zeros + 1 = ap length e ∙ length_if_none b none in
    omega (arith, front, all, length-text_of a, decimal_nonempty a.value (omega (arith, held.1)))

pub text_of-injective : (a b : National) → IsHeld a → IsHeld b → text_of a ≡ text_of b → (a.value ≡ b.value) × (a.zeros ≡ b.zeros)
text_of-injective a b p q e = elim (cases_lt 0 a.value) [
  | inl some ↦ elim (cases_lt 0 b.value) [
    | inl other ↦
        let front : a.zeros ≡ b.zeros = sym (zeros_if_some a p some) ∙ ap leading_zeros e ∙ zeros_if_some b q other in
        let digits : decimal a.value ≡ decimal b.value = append_cancel_left (replicate a.zeros 48) (decimal a.value) (decimal b.value)
        (e ∙ ap (λ z. replicate z 48 ++ decimal b.value) (sym front)) in
        (decimal_injective a.value b.value (omega (arith, p.1)) (omega (arith, q.1)) digits, front)
    | inr none ↦ absurd (text_of-not_none a b p some none e)
  ]
  | inr none ↦ elim (cases_lt 0 b.value) [
    | inl other ↦ absurd (text_of-not_none b a q other none (sym e))
    | inr also ↦
        let long : a.zeros + 1 ≡ b.zeros + 1 = sym (length_if_none a none) ∙ ap length e ∙ length_if_none b also in
        (omega (arith, none, also), omega (arith, long))
  ]
]

-- the word tells the number
pub packed-injective : (a b : National) → IsHeld a → IsHeld b → packed a ≡ packed b → a ≡ b
packed-injective a b p q e =
    ap₂ (λ z v. let n : National = record { zeros = z; value = v } in n) (omega (arith, p.1, q.1, e)) (omega (arith, p.1, q.1, e))
