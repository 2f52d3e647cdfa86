-- Digits that are read as a national number are its text.
use Rattle.std.proofs.Common.{◌≡◌, ℕ, suc, ◌≤◌, ◌-◌, ◌==◌, nat_lt, cond, Bool, true}
use Rattle.std.proofs.Common.{All, drop, take}
use Rattle.std.proofs.Common.{false, List, [], ◌∷◌, ◌++◌, length, replicate, Result, Ok, Err, refl}
use Rattle.std.proofs.Common.{ap, sym, subst, ◌∙◌, arith, eqb-true, ltb-false}
use Rattle.std.proofs.lemmas.Bool.{and_parts}
use Rattle.std.proofs.lemmas.Fmt.{decimal_digit}
use Rattle.std.specs.List.{list_all}
use Rattle.phone_values.specs.Numbers.{IsHeld, National, leading_zeros, national_in}
use Rattle.phone_values.specs.Numbers.{national_with, number_in, text_of}
use Rattle.phone_values.specs.declared.error.ParseError.{ParseError}
use Rattle.phone_values.specs.declared.error.ParseError.TheVariants.{TooLong, TooShortNsn}
use Rattle.phone_library.specs.Readings.{national_number}
use Rattle.phone_library_laws.proofs.NationalTexts.{national_number-nsn, national_number-text_of}
use Rattle.phone_library_laws.proofs.PlusSigns.{IsNoPlus}
use Rattle.phone_read.proofs.ReadNumbers.{national_in-own}

else_ok : (b : Bool) (e : ParseError) (r : Result National ParseError) (n : National) →
    cond b (Err e) r ≡ Ok n → (b ≡ false) × (r ≡ Ok n)
else_ok true e r n h = cc
else_ok false e r n h = (refl, h)

-- zeros alone are the text of as many zeros, of which the last is the value
zeros_text : (s : List ℕ) → list_all (λ d. d == 48) s ≡ true → 1 ≤ length s →
    replicate (length s - 1) 48 ++ 48 ∷ [] ≡ s
zeros_text [] h some = absurd (omega (arith, some))
zeros_text (c ∷ []) h some =
    let zero : c ≡ 48 = eqb-true c 48 (and_parts (c == 48) true h).0 in ap (λ x. x ∷ []) (sym zero)
zeros_text (c ∷ d ∷ ds) h some =
    let both = and_parts (c == 48) (list_all (λ d. d == 48) (d ∷ ds)) h in
    let zero : c ≡ 48 = eqb-true c 48 both.0 in
    let counted : length (c ∷ d ∷ ds) - 1 ≡ suc (length (d ∷ ds) - 1) = omega arith in
    let rest = zeros_text (d ∷ ds) both.1 (omega arith) in
    let whole : 48 ∷ (replicate (length (d ∷ ds) - 1) 48 ++ 48 ∷ []) ≡ c ∷ d ∷ ds =
    subst (λ x. 48 ∷ (replicate (length (d ∷ ds) - 1) 48 ++ 48 ∷ []) ≡ x ∷ d ∷ ds) (sym zero)
    (ap (λ t. 48 ∷ t) rest) in
    subst (λ k. replicate k 48 ++ 48 ∷ [] ≡ c ∷ d ∷ ds) (sym counted) whole

module _ (s : List ℕ) (n : National) (plain : All IsNoPlus s) (read : national_number s ≡ Ok n)
  where
    abbrev told : Result National ParseError
    told =
        let zeros = leading_zeros (take (length s - 1) s) in
        national_with zeros (number_in 64 (drop zeros s))

    past_short : (nat_lt (length s) 2 ≡ false) ×
        (cond (nat_lt 17 (length s)) (Err TooLong) told ≡ Ok n)
    past_short =
        else_ok (nat_lt (length s) 2) TooShortNsn (cond (nat_lt 17 (length s)) (Err TooLong) told) n
        read

    long : 2 ≤ length s
    long = ltb-false (length s) 2 past_short.0

    short : length s ≤ 17
    short = ltb-false 17 (length s) (else_ok (nat_lt 17 (length s)) TooLong told n past_short.1).0

    of_zeros : list_all (λ d. d == 48) s ≡ true → text_of n ≡ s
    of_zeros zeros =
        let nothing : National = record { zeros = length s - 1; value = 0 } in
        let text : text_of nothing ≡ s =
        ap (λ t. replicate (length s - 1) 48 ++ t) (decimal_digit 0 (omega arith))
        ∙ zeros_text s zeros (omega (arith, long)) in
        let room : IsHeld nothing = (omega (arith, short), omega arith) in
        let itself : national_number (text_of nothing) ≡ Ok nothing =
        national_number-text_of nothing room (omega (arith, ap length text, long))
        (omega (arith, ap length text, short)) in
        let both : Ok nothing ≡ Ok n = sym itself ∙ ap national_number text ∙ read in
        let same : nothing ≡ n = cc in
        ap text_of (sym same) ∙ text

    of_value : list_all (λ d. d == 48) s ≡ false → text_of n ≡ s
    of_value some =
        let first = else_ok (nat_lt (length s) 2) TooShortNsn
        (cond (nat_lt 17 (length s)) (Err TooLong) (national_in s)) n
        (national_number-nsn s some ∙ read) in
        let second = else_ok (nat_lt 17 (length s)) TooLong (national_in s) n first.1 in
        (national_in-own s n plain second.1).text

    pub own_digits : text_of n ≡ s
    own_digits = at (list_all (λ d. d == 48) s) refl
      where
        at : (b : Bool) → list_all (λ d. d == 48) s ≡ b → text_of n ≡ s
        at true zeros = of_zeros zeros
        at false some = of_value some
