-- A number in decimal: how long its text is, which texts are read as it, and where it begins a text.
use Rattle.std.proofs.Common.{◌≡◌, ℕ, ◌+◌, ◌<◌, ◌≤◌, ◌^◌, ◌==◌, ⊎_elim, Bool, true, false, List, [], ◌∷◌, length, drop, get_or, Ok, Err, IsUtf8, IsCharBoundary, ◌++◌, eqb-true, refl, ap, sym, subst, ◌∙◌, arith}
use Rattle.std.proofs.lemmas.Bool.{cases_eq, cases_lt, eq-eqb, false_from_ne_true}
use Rattle.std.proofs.lemmas.Fmt.{IsAscii-decimal, decimal-digits_value, decimal_is_IsNumeral, decimal_nonempty, length-decimal-le, parse-decimal}
use Rattle.std.proofs.lemmas.Slice.Eq.{bytes_eq-Decides}
use Rattle.std.proofs.lemmas.Str.{IsCharBoundary-at_seam, IsUtf8-from_ascii}
use Rattle.std.proofs.lemmas.Str.Parse.{IsNumeralModel, digits_value_short, numerals_by_value, tells_digits, without_leading_plus_none, without_leading_plus_plus}
use Rattle.std.specs.Fmt.{decimal}
use Rattle.std.specs.Str.{bytes_eq}
use Rattle.std.specs.Str.Parse.{AllDigits, IsNumeral, digits_value, without_leading_plus}
use Rattle.phone_values.proofs.Digits.{IsNumberBelow}
use Rattle.phone_parts.specs.Texts.{is_front}
use Rattle.phone_parts.proofs.Prefixes.{is_front-drop}
use Rattle.phone_chars.proofs.Runs.{IsUtf8-after}

-- a text may be cut behind a front
pub border_after : (text front rest : List ℕ) → text ≡ front ++ rest → IsUtf8 text → IsUtf8 front → IsCharBoundary text (length front)
border_after text front rest e u f = IsCharBoundary-at_seam text front rest e (IsUtf8-after front rest (subst IsUtf8 e u) f)

own : IsNumeralModel (AllDigits 10) (digits_value 10)
own = numerals_by_value _ tells_digits

-- two tests that hold alike answer alike
same_truth : (a b : Bool) → (a ≡ true → b ≡ true) → (b ≡ true → a ≡ true) → a ≡ b
same_truth true b there back = sym (there refl)
same_truth false true there back = back refl
same_truth false false there back = refl

-- a number from 10 ^ k on has more than k digits
decimal-long : (n k : ℕ) → n < 2 ^ 64 → 10 ^ k ≤ n → k < length (decimal n)
decimal-long n k fits low = ⊎_elim (λ more. more)
    (λ few.
    let read = decimal_is_IsNumeral n fits in
    let small : digits_value 10 (decimal n) < 10 ^ k = digits_value_short own (decimal n) k read.0.1 few in
    absurd (omega (arith, small, read.1, low)))
    (cases_lt k (length (decimal n)))

-- a number from 10 ^ k on, and below 10 ^ (k + 1), has k + 1 digits
pub length-decimal : (n k : ℕ) → n < 2 ^ 64 → 10 ^ k ≤ n → n < 10 ^ (k + 1) → k + 1 ≡ length (decimal n)
length-decimal n k fits low high = omega (arith, decimal-long n k fits low, length-decimal-le (k + 1) n (omega arith) high fits)

-- of a number below 10 ^ k that has k + 1 digits there is one digit
one_digit : (n k : ℕ) → n < 2 ^ 64 → length (decimal n) ≡ k + 1 → n < 10 ^ k → k ≡ 0
one_digit n k fits count small = ⊎_elim
    (λ some. absurd (omega (arith, count, length-decimal-le k n some small fits)))
    (λ none. omega (arith, none))
    (cases_lt 0 k)

-- a zero at the front doesn't count
value_past_zero : (t : List ℕ) → get_or t 0 0 ≡ 48 → digits_value 10 t ≡ digits_value 10 (drop 1 t)
value_past_zero [] e = refl
value_past_zero (c ∷ cs) e = ap (λ x. digits_value 10 (x ∷ cs)) e

digits_past_one : (t : List ℕ) → AllDigits 10 t → AllDigits 10 (drop 1 t)
digits_past_one [] h = h
digits_past_one (c ∷ cs) h = h.1

length_past_one : (t : List ℕ) → 0 < length t → length t ≡ length (drop 1 t) + 1
length_past_one [] some = absurd (omega (arith, some))
length_past_one (c ∷ cs) some = omega arith

-- a text as long as a number's, and read as the number, is the number in decimal
read-decimal : (t : List ℕ) (n : ℕ) → n < 2 ^ 64 → length t ≡ length (decimal n) → IsNumeral 10 (without_leading_plus t) →
    n ≡ digits_value 10 (without_leading_plus t) → t ≡ decimal n
read-decimal t n fits long numeral value = ⊎_elim plus plain (cases_eq (get_or t 0 0) 43)
  where
    some : 0 < length t
    some = omega (arith, long, decimal_nonempty n fits)

    rest : length t ≡ length (drop 1 t) + 1
    rest = length_past_one t some

    few : AllDigits 10 (drop 1 t) → n ≡ digits_value 10 (drop 1 t) → length (drop 1 t) ≡ 0
    few digits same =
        one_digit n (length (drop 1 t)) fits (sym long ∙ rest)
        (omega (arith, same, digits_value_short own (drop 1 t) (length (drop 1 t)) digits (omega arith)))

    plus : get_or t 0 0 ≡ 43 → t ≡ decimal n
    plus e =
        let past : without_leading_plus t ≡ drop 1 t = without_leading_plus_plus t e in
        let read : IsNumeral 10 (drop 1 t) = subst (IsNumeral 10) past numeral in
        absurd (omega (arith, read.0, few read.1 (value ∙ ap (digits_value 10) past)))

    plain : ¬ (get_or t 0 0 ≡ 43) → t ≡ decimal n
    plain e =
        let past : without_leading_plus t ≡ t = without_leading_plus_none t e in
        let read : IsNumeral 10 t = subst (IsNumeral 10) past numeral in
        let same : n ≡ digits_value 10 t = value ∙ ap (digits_value 10) past in
        sym (decimal-digits_value own t read.1 some
        (λ z. omega (arith, rest, few (digits_past_one t read.1) (same ∙ value_past_zero t z))) (omega (arith, fits, same)))
        ∙ ap decimal (sym same)

-- what `parse` answers on a text as long as a number's tells whether it is the number
pub read-told : (t : List ℕ) (n m : ℕ) → n < 2 ^ 16 → length t ≡ length (decimal n) → IsNumberBelow 16 t × (m ≡ digits_value 10 (without_leading_plus t)) →
    (m == n) ≡ bytes_eq t (decimal n)
read-told t n m fits long p =
    let wide : n < 2 ^ 64 = omega (arith, fits) in
    same_truth (m == n) (bytes_eq t (decimal n))
    (λ h. (bytes_eq-Decides t (decimal n)).1 (read-decimal t n wide long p.0.0 (sym (eqb-true m n h) ∙ p.1)))
    (λ h. let read = parse-decimal {E = ℕ} 16 n t (Ok m) fits wide ((bytes_eq-Decides t (decimal n)).0 h) p in eq-eqb m n cc)

pub refused-told : (t : List ℕ) (n : ℕ) → n < 2 ^ 16 → ¬ (IsNumberBelow 16 t) → false ≡ bytes_eq t (decimal n)
refused-told t n fits p = sym (false_from_ne_true _ (λ h.
    let wide : n < 2 ^ 64 = omega (arith, fits) in
    let read = parse-decimal {E = ℕ} 16 n t (Err 0) fits wide ((bytes_eq-Decides t (decimal n)).0 h) p in
    cc))

-- a text may be cut behind a number that it begins with
pub border_after_number : (text : List ℕ) (n : ℕ) → n < 2 ^ 64 → IsUtf8 text → is_front (decimal n) text ≡ true → IsCharBoundary text (length (decimal n))
border_after_number text n fits u h =
    border_after text (decimal n) (drop (length (decimal n)) text) (is_front-drop (decimal n) text h) u (IsUtf8-from_ascii (decimal n) (IsAscii-decimal n fits))

pub no_number : (text : List ℕ) (n len : ℕ) → n < 2 ^ 64 → len ≡ length (decimal n) → IsUtf8 text → ¬ (IsCharBoundary text len) → false ≡ is_front (decimal n) text
no_number text n len fits same u none =
    sym (false_from_ne_true _ (λ h. none (subst (IsCharBoundary text) (sym same) (border_after_number text n fits u h))))
