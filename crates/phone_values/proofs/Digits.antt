-- Zeros at the front of a text, the number that follows them, and both read back.
use Rattle.std.proofs.Common.{◌≡◌, ℕ, zero, suc, ◌+◌, ◌-◌, ◌++◌, get_or, replicate, arith, add-one, ne_eqb, ◌^◌, ◌<◌, ◌≤◌, true, ◌==◌, ◌&&◌, nat_lt, List, [], ◌∷◌, length, drop, ap, ap₂, sym, ◌∙◌, Option, Some, None, IfSome, drop-drop, Result, Ok, Err, MatchResult, refl, lt-ltb, ltb-true, eqb-true}
use Rattle.std.proofs.lemmas.Bool.{and_from, and_parts, cond-false, false_from_ne_true, le-ltb}
use Rattle.std.proofs.lemmas.Fmt.{first_decimal, decimal_is_IsNumeral}
use Rattle.std.proofs.lemmas.Str.Parse.{without_leading_plus_none}
use Rattle.std.proofs.lemmas.Str.{len_utf8_bounds}
use Rattle.std.proofs.lemmas.Str.Pattern.{drop_at_char, strip_prefix_char}
use Rattle.std.specs.Fmt.{decimal}
use Rattle.std.specs.Char.{is_digit}
use Rattle.std.specs.List.{list_all}
use Rattle.std.specs.Str.Pattern.{CutsPrefixes, FindsCharPrefix, IsTrimStartMatches}
use Rattle.std.specs.Str.Parse.{AllDigits, IsNumeral, digits_value, without_leading_plus}
use Rattle.phone_values.specs.declared.error.ParseError.{ParseError}
use Rattle.phone_values.specs.declared.error.ParseError.TheVariants.{TooLong}
use Rattle.phone_values.specs.Numbers.{National, leading_zeros, number_in, national_with, national_in, text_of}

pub leading_zeros_none : (cs : List ℕ) → ((rest : List ℕ) → cs ≡ 48 ∷ rest → ⊥) → leading_zeros cs ≡ 0
leading_zeros_none [] h = refl
leading_zeros_none (c ∷ cs) h =
    cond-false (c == 48) _ _ (false_from_ne_true _ (λ t. let e : c ≡ 48 = eqb-true c 48 t in h cs (rw e)))

-- what cuts of single zeros took off a text
record IsPastZeros (s r : List ℕ) (n : ℕ) : Type 0 where
  pub past : drop n s ≡ r
  pub zeros : leading_zeros s ≡ n + leading_zeros r
  pub long : n + length r ≡ length s

-- each cut takes one zero
past_zeros : (s : List ℕ) (ns : List ℕ) (r : List ℕ) → CutsPrefixes (FindsCharPrefix 48) s ns r → IsPastZeros s r (length ns)
past_zeros s [] r e = record { past = sym e; zeros = omega (arith, ap leading_zeros e); long = omega (arith, ap length e) }
past_zeros s (n ∷ ns) r (m, cuts, found, e) =
    let h = past_zeros s ns m cuts in
    let zero_then : m ≡ 48 ∷ r = drop_at_char 48 m 0 n found (omega arith) ∙ ap (λ t. 48 ∷ t) (sym e) in
    let more : length ns + 1 ≡ length (n ∷ ns) = omega arith in
    record {
      past = ap (λ k. drop k s) (sym more) ∙ sym (drop-drop 1 (length ns) s) ∙ ap (drop 1) (h.past ∙ zero_then);
      zeros = omega (arith, h.zeros, ap leading_zeros zero_then);
      long = omega (arith, h.long, ap length zero_then);
    }

-- a text in whose front no zero is found has none there
no_zeros : (r : List ℕ) (o : Option ℕ) → IfSome o (λ n. n ≡ 0) → FindsCharPrefix 48 r o → leading_zeros r ≡ 0
no_zeros r None e none = leading_zeros_none r (strip_prefix_char 48 r None none (omega arith))
no_zeros r (Some n) e found = absurd (omega (arith, e, found.ends, len_utf8_bounds 48))

-- `trim_start_matches` at a zero leaves what follows the leading zeros
pub leading_zeros-trimmed : (s r : List ℕ) → IsTrimStartMatches (FindsCharPrefix 48) s r →
    (length s - length r ≡ leading_zeros s) × (r ≡ drop (leading_zeros s) s)
leading_zeros-trimmed s r h =
    let k = past_zeros s h.0.0 r h.0.1 in
    let count : leading_zeros s ≡ length h.0.0 = omega (arith, k.zeros, no_zeros r h.1.0 h.1.2 h.1.1) in
    (omega (arith, k.long, count), sym k.past ∙ ap (λ n. drop n s) (sym count))

digits_pass : (ds : List ℕ) → AllDigits 10 ds → list_all (λ c. is_digit c 10) ds ≡ true
digits_pass [] h = refl
digits_pass (d ∷ ds) h = and_from _ _ (lt-ltb _ 10 h.0) (digits_pass ds h.1)

digits_from : (ds : List ℕ) → list_all (λ c. is_digit c 10) ds ≡ true → AllDigits 10 ds
digits_from [] h = tt
digits_from (d ∷ ds) h = let both = and_parts (is_digit d 10) _ h in (ltb-true _ 10 both.0, digits_from ds both.1)

-- what `parse` says of a text at an `Ok` and at an `Err`, in the words of the definition
abbrev pub IsNumberBelow : ℕ → List ℕ → Type 0
IsNumberBelow k text = IsNumeral 10 (without_leading_plus text) × (digits_value 10 (without_leading_plus text) < 2 ^ k)

pub number_some : (k : ℕ) (text : List ℕ) (n : ℕ) → IsNumberBelow k text × (n ≡ digits_value 10 (without_leading_plus text)) → number_in k text ≡ Some n
number_some k text n h = rw (h.1, lt-ltb _ _ h.0.0.0, digits_pass _ h.0.0.1, lt-ltb _ _ h.0.1)

pub number_none : (k : ℕ) (text : List ℕ) → ¬ (IsNumberBelow k text) → number_in k text ≡ None
number_none k text h = cond-false _ _ _ (false_from_ne_true _ (λ all.
    let ds = without_leading_plus text in
    let outer = and_parts (nat_lt 0 (length ds) && list_all (λ c. is_digit c 10) ds) _ all in
    let inner = and_parts (nat_lt 0 (length ds)) _ outer.0 in
    h ((ltb-true 0 _ inner.0, digits_from ds inner.1), ltb-true _ _ outer.1)))

-- what `new` answers, in the words of the definition
pub national_with_new : (count value : ℕ) (r : Result National ParseError) → count < 256 →
    MatchResult r (λ n. (value < 2 ^ 56) × (n ≡ record { zeros = count; value = value })) (λ e. (2 ^ 56 ≤ value) × (e ≡ TooLong)) →
    r ≡ national_with count (Some value)
national_with_new count value (Ok n) small h = rw (h.1, lt-ltb count 256 small, lt-ltb value (2 ^ 56) h.0)
national_with_new count value (Err e) small h = rw (h.1, lt-ltb count 256 small, le-ltb value (2 ^ 56) h.0)

pub national_with_many : (count value : ℕ) → 256 ≤ count → Err TooLong ≡ national_with count (Some value)
national_with_many count value many = rw (le-ltb count 256 many)

-- the number, by its parts
pub national_in_parts : (text rest : List ℕ) (count : ℕ) (number : Option ℕ) → count ≡ leading_zeros text → rest ≡ drop (leading_zeros text) text →
    number_in 64 rest ≡ number → national_with count number ≡ national_in text
national_in_parts text rest count number z r n = ap₂ national_with z (sym n ∙ ap (number_in 64) r)

pub zeros_then : (n : ℕ) (cs : List ℕ) → 48 < get_or cs 0 0 → leading_zeros (replicate n 48 ++ cs) ≡ n
zeros_then zero [] h = refl
zeros_then zero (c ∷ cs) h = cond-false (c == 48) _ _ (ne_eqb c 48 (omega arith))
zeros_then (suc n) cs h = ap (λ m. m + 1) (zeros_then n cs h) ∙ add-one n

pub after_zeros : (n : ℕ) (cs : List ℕ) → cs ≡ drop n (replicate n 48 ++ cs)
after_zeros zero cs = refl
after_zeros (suc n) cs = after_zeros n cs

-- the text of a number whose value is not 0 is read as the number
pub national_in-text_of : (n : National) → n.zeros < 256 → 0 < n.value → n.value < 2 ^ 56 → national_in (text_of n) ≡ Ok n
national_in-text_of n few positive below =
    let fits : n.value < 2 ^ 64 = omega arith in
    let digits = decimal n.value in
    let first : 48 < get_or digits 0 0 = first_decimal n.value positive fits in
    let zeros : leading_zeros (text_of n) ≡ n.zeros = zeros_then n.zeros digits first in
    let plain : without_leading_plus digits ≡ digits = without_leading_plus_none digits (omega (arith, first)) in
    let numeral = decimal_is_IsNumeral n.value fits in
    let read : number_in 64 digits ≡ Some n.value = number_some 64 digits n.value (rw plain ((numeral.0, rw numeral.1 fits), sym numeral.1)) in
    let after : digits ≡ drop (leading_zeros (text_of n)) (text_of n) = rw zeros (after_zeros n.zeros digits) in
    sym (national_in_parts (text_of n) digits n.zeros (Some n.value) (sym zeros) after read)
    ∙ rw (lt-ltb n.zeros 256 few, lt-ltb n.value (2 ^ 56) below)
