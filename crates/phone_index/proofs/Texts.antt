-- Digits at the front of a text, and the numbers that they write.
use Rattle.std.proofs.Common.{◌≡◌, ◌≢◌, ◌⊎◌, inl, inr, ℕ, zero, suc, ◌+◌, ◌-◌, ◌*◌, ◌<◌, ◌≤◌, ◌&&◌, nat_le, Bool, true, false, cond, List, [], ◌∷◌, length, take, get_or, None, Some, refl, ap, sym, subst, ◌∙◌, arith}
use Rattle.std.proofs.Math.Numerals.{add-one}
use Rattle.std.proofs.lemmas.Bool.{and_from, and_parts, cases_lt, le-leb, leb-true, false_from_ne_true}
use Rattle.std.proofs.lemmas.Int.Digits.{digits_value_more}
use Rattle.std.proofs.lemmas.Str.{digit_value_digit}
use Rattle.std.proofs.lemmas.Slice.Eq.{bytes_eq-Decides}
use Rattle.std.specs.Prelude.{codes}
use Rattle.std.specs.Char.{digit_value, is_ascii_digit}
use Rattle.std.specs.Str.{all_ascii_digits, bytes_eq}
use Rattle.std.specs.Str.Parse.{digits_value}
use Rattle.phone_index.specs.ListedCodes.{front_number, if_in, is_in}
use Rattle.phone_index.specs.Nodes.{IsFront, same, longer}

-- the bytes that are digits
pub in_range : (c : ℕ) → is_ascii_digit c ≡ true → (48 ≤ c) × (c ≤ 57)
in_range c t = let both = and_parts _ _ t in (leb-true 48 c both.0, leb-true c 57 both.1)

-- a digit of a front of digits
pub digit_in : (xs : List ℕ) (j k : ℕ) → all_ascii_digits (take j xs) ≡ true → k < j → k < length xs → is_ascii_digit (get_or xs k 0) ≡ true
digit_in [] j k t less inside = absurd (omega (arith, inside))
digit_in (x ∷ xs) zero k t less inside = absurd (omega (arith, less))
digit_in (x ∷ xs) (suc j) zero t less inside = (and_parts (is_ascii_digit x) _ t).0
digit_in (x ∷ xs) (suc j) (suc k) t less inside = digit_in xs j k (and_parts (is_ascii_digit x) _ t).1 (omega (arith, less)) (omega (arith, inside))

-- a shorter front of digits
pub fewer_digits : (xs : List ℕ) (j k : ℕ) → k ≤ j → all_ascii_digits (take j xs) ≡ true → all_ascii_digits (take k xs) ≡ true
fewer_digits xs j zero less t = refl
fewer_digits [] j (suc k) less t = refl
fewer_digits (x ∷ xs) zero (suc k) less t = absurd (omega (arith, less))
fewer_digits (x ∷ xs) (suc j) (suc k) less t = let both = and_parts (is_ascii_digit x) _ t in and_from (is_ascii_digit x) _ both.0 (fewer_digits xs j k (omega (arith, less)) both.1)

-- a digit more
pub more_digits : (xs : List ℕ) (k : ℕ) → all_ascii_digits (take k xs) ≡ true → is_ascii_digit (get_or xs k 0) ≡ true → all_ascii_digits (take (suc k) xs) ≡ true
more_digits [] k t d = refl
more_digits (x ∷ xs) zero t d = and_from (is_ascii_digit x) true d refl
more_digits (x ∷ xs) (suc k) t d = let both = and_parts (is_ascii_digit x) _ t in and_from (is_ascii_digit x) _ both.0 (more_digits xs k both.1 d)

-- and what it writes
pub more_value : (xs : List ℕ) (k d : ℕ) → k < length xs → is_ascii_digit (get_or xs k 0) ≡ true → d ≡ get_or xs k 0 - 48 → digits_value 10 (take (suc k) xs) ≡ 10 * digits_value 10 (take k xs) + d
more_value xs k d inside t e =
    let r = in_range (get_or xs k 0) t in
    let more : digits_value 10 (take (suc k) xs) ≡ digits_value 10 (take k xs) * 10 + digit_value (get_or xs k 0) = subst (λ n. digits_value 10 (take n xs) ≡ digits_value 10 (take k xs) * 10 + digit_value (get_or xs k 0)) (add-one k) (digits_value_more 10 xs k inside) in
    let value = digit_value_digit (get_or xs k 0) r in
    omega (arith, more, value, e, r.0)

-- the numbers of shorter fronts are in front of a front's number
pub fronts_of : (xs : List ℕ) (j k : ℕ) → k ≤ j → j ≤ length xs → all_ascii_digits (take j xs) ≡ true → IsFront (digits_value 10 (take k xs)) (digits_value 10 (take j xs))
fronts_of xs zero k less inside t = let z : k ≡ 0 = omega (arith, less) in subst (λ i. IsFront (digits_value 10 (take i xs)) 0) (sym z) same
fronts_of xs (suc j) k less inside t = step (cases_lt k (suc j)) (λ h. fronts_of xs j k h (omega (arith, inside)) (fewer_digits xs (suc j) j (omega arith) t))
  where
    step : (k < suc j) ⊎ (suc j ≤ k) → (k ≤ j → IsFront (digits_value 10 (take k xs)) (digits_value 10 (take j xs))) → IsFront (digits_value 10 (take k xs)) (digits_value 10 (take (suc j) xs))
    step (inr h) rest = let e : k ≡ suc j = omega (arith, h, less) in subst (λ i. IsFront (digits_value 10 (take i xs)) (digits_value 10 (take (suc j) xs))) (sym e) same
    step (inl h) rest =
        let d = digit_in xs (suc j) j t (omega arith) (omega (arith, inside)) in
        let v = more_value xs j (get_or xs j 0 - 48) (omega (arith, inside)) d refl in
        let r = in_range (get_or xs j 0) d in
        longer (omega (arith, v, r.0, r.1)) (rest (omega (arith, h)))

module _ (listed text : List ℕ) (j : ℕ) where
  -- the first j bytes write no code, where that they do leads nowhere
  pub no_code : (j ≤ length text → all_ascii_digits (take j text) ≡ true → is_in (digits_value 10 (take j text)) listed ≡ true → ⊥) → if_in listed (front_number j text) ≡ None
  no_code f = step (nat_le j (length text)) (all_ascii_digits (take j text)) (is_in (digits_value 10 (take j text)) listed) refl refl refl
    where
      step : (a b c : Bool) → nat_le j (length text) ≡ a → all_ascii_digits (take j text) ≡ b → is_in (digits_value 10 (take j text)) listed ≡ c →
          if_in listed (cond (a && b) (Some (digits_value 10 (take j text))) None) ≡ None
      step false b c x y z = refl
      step true false c x y z = refl
      step true true false x y z = ap (λ t. cond t (Some (digits_value 10 (take j text))) None) z
      step true true true x y z = absurd (f (leb-true j (length text) x) y z)

  -- they write a code
  pub a_code : j ≤ length text → all_ascii_digits (take j text) ≡ true → is_in (digits_value 10 (take j text)) listed ≡ true → if_in listed (front_number j text) ≡ Some (digits_value 10 (take j text))
  a_code inside digits t =
      ap (λ b. if_in listed (cond b (Some (digits_value 10 (take j text))) None)) (and_from _ _ (le-leb j (length text) inside) digits)
      ∙ ap (λ b. cond b (Some (digits_value 10 (take j text))) None) t

-- a text that begins with `0`
pub starts_with_0 : (text : List ℕ) → 0 < length text → get_or text 0 0 ≡ 48 → bytes_eq (take 1 text) (codes "0") ≡ true
starts_with_0 [] some e = absurd (omega (arith, some))
starts_with_0 (c ∷ cs) some e = (bytes_eq-Decides (c ∷ []) (codes "0")).1 (ap (λ x. x ∷ []) e)

-- and one that begins otherwise
pub starts_otherwise : (text : List ℕ) → 0 < length text → get_or text 0 0 ≢ 48 → bytes_eq (take 1 text) (codes "0") ≡ false
starts_otherwise [] some other = absurd (omega (arith, some))
starts_otherwise (c ∷ cs) some other = false_from_ne_true _ (λ t. other (ap (λ xs. get_or xs 0 0) ((bytes_eq-Decides (c ∷ []) (codes "0")).0 t)))
