-- The keys of a text.
use Rattle.std.proofs.Common.{◌≡◌, ⊎_elim, ℕ, ◌+◌, ◌-◌, ◌<◌, ◌≤◌, ◌==◌, ◌||◌, nat_le, chars, encode_utf8, eqb-true, leb-true, not, Bool, true, false, cond, List, [], ◌∷◌, ◌++◌, drop, take, length, Option, None, Some, option_map, append-nil, refl, ap, sym, subst, ◌∙◌, arith}
use Rattle.std.proofs.Math.Seq.{take-append_seam}
use Rattle.std.proofs.lemmas.Bool.{and_from, and_parts, cond-false, le-leb, not-true, or_cases}
use Rattle.std.proofs.lemmas.Str.{chars-IsAscii, encodes-IsAscii}
use Rattle.std.proofs.lemmas.Str.Ascii.{IsAscii-cons, IsAscii-nil}
use Rattle.std.specs.Str.{IsAscii}
use Rattle.std.proofs.lemmas.List.{append_assoc, length-append, take-append-drop}
use Rattle.std.proofs.lemmas.List.Folds.{list_all-append}
use Rattle.std.specs.List.{find, list_all}
use Rattle.std.specs.Option.{option_to_list}
use Rattle.phone_chars.specs.Characters.{is_digit, is_in_run, is_plus}
use Rattle.phone_library_text.specs.Letters.{value_of, zeros}
use Rattle.phone_parts.proofs.PrintedTexts.{digit_passes}
use Rattle.phone_library_text.proofs.Digits.{found_in_run, value_digit}
use Rattle.phone_typed.specs.Keys.{is_key, key_of, keys_in, with_key, with_keys}

-- more is typed after a text
pub with_keys-append : (keys text more : List ℕ) → with_keys keys (text ++ more) ≡ with_keys (with_keys keys text) more
with_keys-append keys [] more = refl
with_keys-append keys (c ∷ text) more = with_keys-append (with_key keys c) text more

-- a digit's value is a key
value_is_key : (c d : ℕ) → value_of c ≡ Some d → is_key d ≡ true
value_is_key c d e = at (find (λ zero. is_in_run zero c) zeros) refl e
  where
    at : (o : Option ℕ) → find (λ zero. is_in_run zero c) zeros ≡ o → option_map (λ zero. 48 + (c - zero)) o ≡ Some d → is_key d ≡ true
    at None f g = absurd (cc)
    at (Some z) f g =
        let near = found_in_run zeros c z f in
        let same : 48 + (c - z) ≡ d = cc in
        let low : 48 ≤ d = omega (arith, same) in
        let high : d ≤ 57 = omega (arith, same, near.1) in
        ap (λ b. b || (d == 43)) (and_from (nat_le 48 d) (nat_le d 57) (le-leb 48 d low) (le-leb d 57 high))

key_is_key : (keys : List ℕ) (c d : ℕ) → key_of keys c ≡ Some d → is_key d ≡ true
key_is_key [] c d e = at (is_plus c) e
  where
    at : (b : Bool) → cond b (Some 43) (value_of c) ≡ Some d → is_key d ≡ true
    at true e = let same : 43 ≡ d = cc in subst (λ k. is_key k ≡ true) same refl
    at false e = value_is_key c d e
key_is_key (k ∷ keys) c d e = value_is_key c d e

pub all-with_key : (keys : List ℕ) (c : ℕ) → list_all is_key keys ≡ true → list_all is_key (with_key keys c) ≡ true
all-with_key keys c are = at (key_of keys c) refl
  where
    at : (o : Option ℕ) → key_of keys c ≡ o → list_all is_key (keys ++ option_to_list o) ≡ true
    at None e = ap (list_all is_key) (append-nil keys) ∙ are
    at (Some k) e = list_all-append is_key keys (k ∷ []) ∙ and_from _ _ are (and_from _ _ (key_is_key keys c k e) refl)

pub all-with_keys : (keys text : List ℕ) → list_all is_key keys ≡ true → list_all is_key (with_keys keys text) ≡ true
all-with_keys keys [] are = are
all-with_keys keys (c ∷ text) are = all-with_keys (with_key keys c) text (all-with_key keys c are)

-- the last key taken away
pub without_key : (keys : List ℕ) (k : ℕ) → take (length (keys ++ k ∷ []) - 1) (keys ++ k ∷ []) ≡ keys
without_key keys k =
    let long = length-append keys (k ∷ []) in
    let n : length (keys ++ k ∷ []) - 1 ≡ length keys = omega (arith, long) in
    ap (λ n. take n (keys ++ k ∷ [])) n ∙ take-append_seam keys (k ∷ [])

-- keys are bytes of ASCII
pub key_small : (k : ℕ) → is_key k ≡ true → k < 128
key_small k h = ⊎_elim
    (λ (e : is_digit k ≡ true). (let high = leb-true k 57 (and_parts (nat_le 48 k) (nat_le k 57) e).1 in omega (arith, high)))
    (λ (e : (k == 43) ≡ true). (let same = eqb-true k 43 e in omega (arith, same)))
    (or_cases (is_digit k) (k == 43) h)

pub IsAscii-keys : (keys : List ℕ) → list_all is_key keys ≡ true → IsAscii keys
IsAscii-keys [] are = IsAscii-nil
IsAscii-keys (k ∷ keys) are =
    let parts = and_parts (is_key k) (list_all is_key keys) are in
    IsAscii-cons k keys (key_small k parts.0) (IsAscii-keys keys parts.1)

-- a key is its own byte
pub key_byte : (keys : List ℕ) (c d : ℕ) → key_of keys c ≡ Some d → encode_utf8 d ≡ d ∷ []
key_byte keys c d e = sym (append-nil (encode_utf8 d)) ∙ encodes-IsAscii (d ∷ []) (IsAscii-keys (d ∷ []) (and_from _ _ (key_is_key keys c d e) refl))

-- some first keys are keys
pub all-take : (n : ℕ) (keys : List ℕ) → list_all is_key keys ≡ true → list_all is_key (take n keys) ≡ true
all-take n keys are =
    (and_parts _ _ (sym (list_all-append is_key (take n keys) (drop n keys)) ∙ ap (list_all is_key) (take-append-drop n keys) ∙ are)).0

-- digits are their own keys, after whatever keys
digit_key : (keys : List ℕ) (d : ℕ) → is_digit d ≡ true → key_of keys d ≡ Some d
digit_key [] d h =
    cond-false _ (Some 43) (value_of d) (not-true (is_plus d) (digit_passes (λ c. not (is_plus c)) refl d h)) ∙ value_digit d h
digit_key (k ∷ keys) d h = value_digit d h

with_digits : (keys digits : List ℕ) → list_all is_digit digits ≡ true → with_keys keys digits ≡ keys ++ digits
with_digits keys [] h = sym (append-nil keys)
with_digits keys (d ∷ digits) h =
    let parts = and_parts (is_digit d) (list_all is_digit digits) h in
    ap (λ o. with_keys (keys ++ option_to_list o) digits) (digit_key keys d parts.0)
    ∙ with_digits (keys ++ d ∷ []) digits parts.1
    ∙ append_assoc keys (d ∷ []) digits

digits_are_keys : (digits : List ℕ) → list_all is_digit digits ≡ true → list_all is_key digits ≡ true
digits_are_keys [] h = refl
digits_are_keys (d ∷ digits) h =
    let parts = and_parts (is_digit d) (list_all is_digit digits) h in
    and_from _ _ (ap (λ b. b || (d == 43)) parts.0) (digits_are_keys digits parts.1)

-- a text of digits is nothing but its keys, and so is one with a plus sign before them
pub keys_of_digits : (digits : List ℕ) → list_all is_digit digits ≡ true → keys_in (chars digits) ≡ digits
keys_of_digits digits h =
    ap keys_in (chars-IsAscii digits (IsAscii-keys digits (digits_are_keys digits h))) ∙ with_digits [] digits h

pub keys_of_signed : (digits : List ℕ) → list_all is_digit digits ≡ true → keys_in (chars (43 ∷ digits)) ≡ 43 ∷ digits
keys_of_signed digits h =
    ap keys_in (chars-IsAscii (43 ∷ digits) (IsAscii-keys (43 ∷ digits) (digits_are_keys digits h))) ∙ with_digits (43 ∷ []) digits h
