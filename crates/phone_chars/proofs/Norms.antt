-- The digits of a text: they are digits alone, and a text of digits alone is its own.
use Rattle.std.proofs.Common.{◌≡◌, ℕ, ◌+◌, ◌-◌, Bool, true, false, nat_le, nat_lt, List, [], ◌∷◌, Some, IfSome, encode_utf8_all, IsUtf8, All, IsAscii, get_or, ◌<◌, zero, suc, refl, ap, sym, subst, ◌∙◌, arith, ltb-true}
use Rattle.std.proofs.lemmas.Bool.{and_from, and_parts, cond_both, leb-true, le-leb}
use Rattle.std.proofs.lemmas.Fmt.{IsAscii-from_digits}
use Rattle.std.proofs.lemmas.Str.{IsUtf8-from_ascii, chars-IsAscii, encodes-IsAscii, encodes-chars}
use Rattle.std.specs.List.{list_all, find}
use Rattle.std.specs.Str.{chars}
use Rattle.phone_chars.specs.Characters.{is_digit, is_one_of, is_in_run, script_zeros, key_letters, as_dec_digit, keypad, digit_of}
use Rattle.phone_chars.specs.Norm.{norm}
use Rattle.phone_values.proofs.ReadBack.{all_digits}
use Rattle.phone_values.proofs.Finds.{IfSome-find, IfSome-option_map, IfSome-option_or, list_all-filter_map}

pub norm_digits : (cs : List ℕ) → list_all is_digit cs ≡ true → norm cs ≡ cs
norm_digits [] h = refl
norm_digits (c ∷ cs) h =
    let both = and_parts (is_digit c) (list_all is_digit cs) h in
    rw both.0 (ap (λ ds. c ∷ ds) (norm_digits cs both.1))

run_digit : (c first : ℕ) → is_in_run first c ≡ true → is_digit (48 + (c - first)) ≡ true
run_digit c first h =
    let both = and_parts (nat_le first c) (nat_lt c (first + 10)) h in
    let low = leb-true first c both.0 in
    let high = ltb-true c (first + 10) both.1 in
    and_from _ _ (le-leb 48 (48 + (c - first)) (omega arith)) (le-leb (48 + (c - first)) 57 (omega (arith, low, high)))

as_dec_digit_digit : (c : ℕ) → IfSome (as_dec_digit c) (λ d. is_digit d ≡ true)
as_dec_digit_digit c = cond_both (is_digit c) (Some c) _ (λ o. IfSome o (λ d. is_digit d ≡ true)) (λ t. t)
    (λ f. IfSome-option_map (λ first. 48 + (c - first)) _ _ (find (λ first. is_in_run first c) script_zeros)
    (IfSome-find (λ first. is_in_run first c) (λ first. true) script_zeros refl) (λ first h. run_digit c first h.0))

keypad_digit : (c : ℕ) → IfSome (keypad c) (λ d. is_digit d ≡ true)
keypad_digit c = cond_both (is_digit c) (Some c) _ (λ o. IfSome o (λ d. is_digit d ≡ true)) (λ t. t)
    (λ f. IfSome-option_map (λ (k : ℕ × List ℕ). k.0) _ _ (find (λ (k : ℕ × List ℕ). is_one_of k.1 c) key_letters)
    (IfSome-find (λ (k : ℕ × List ℕ). is_one_of k.1 c) (λ (k : ℕ × List ℕ). is_digit k.0) key_letters refl) (λ k h. h.1))

pub list_all-norm : (t : List ℕ) → list_all is_digit (norm t) ≡ true
list_all-norm t = list_all-filter_map digit_of is_digit
    (λ c. IfSome-option_or _ (as_dec_digit c) (keypad c) (as_dec_digit_digit c) (keypad_digit c)) t

-- so they are ASCII, and each is a byte
norm_ascii : (t : List ℕ) → IsAscii (norm t)
norm_ascii t = IsAscii-from_digits (norm t) (all_digits (norm t) (list_all-norm t))

pub norm_utf8 : (t : List ℕ) → IsUtf8 (norm t)
norm_utf8 t = IsUtf8-from_ascii (norm t) (norm_ascii t)

pub norm_written : (t : List ℕ) → encode_utf8_all (norm t) ≡ norm t
norm_written t = encodes-IsAscii (norm t) (norm_ascii t)

-- a text that is its own digits is digits alone
pub own_norm : (t : List ℕ) → encode_utf8_all (norm (chars t)) ≡ t → list_all is_digit (chars t) ≡ true
own_norm t e =
    let alone : list_all is_digit t ≡ true = subst (λ x. list_all is_digit x ≡ true) (sym (norm_written (chars t)) ∙ e) (list_all-norm (chars t)) in
    ap (list_all is_digit) (chars-IsAscii t (IsAscii-from_digits t (all_digits t alone))) ∙ alone

-- a text's bytes are digits where its characters are
pub digits_by_bytes : (t : List ℕ) → IsUtf8 t → list_all is_digit t ≡ list_all is_digit (chars t)
digits_by_bytes t u = alike (list_all is_digit t) (list_all is_digit (chars t)) by_bytes by_chars
  where
    alike : (a b : Bool) → (a ≡ true → b ≡ true) → (b ≡ true → a ≡ true) → a ≡ b
    alike true b f g = sym (f refl)
    alike false true f g = g refl
    alike false false f g = refl

    by_bytes : list_all is_digit t ≡ true → list_all is_digit (chars t) ≡ true
    by_bytes h = ap (list_all is_digit) (chars-IsAscii t (IsAscii-from_digits t (all_digits t h))) ∙ h

    by_chars : list_all is_digit (chars t) ≡ true → list_all is_digit t ≡ true
    by_chars h =
        let written = encodes-IsAscii (chars t) (IsAscii-from_digits (chars t) (all_digits (chars t) h)) in
        ap (list_all is_digit) (sym (encodes-chars t u) ∙ written) ∙ h

-- bytes of ASCII, as the text's lemmas have it
pub is_ascii_text : (bs : List ℕ) → All (λ b. b < 128) bs → IsAscii bs
is_ascii_text bs h i = at bs h i
  where
    at : (bs : List ℕ) → All (λ b. b < 128) bs → (i : ℕ) → get_or bs i 0 < 128
    at [] h i = omega arith
    at (b ∷ bs) h zero = h 0 0 (omega arith)
    at (b ∷ bs) h (suc i) = at bs (λ k d l. h (suc k) d (omega (arith, l))) i
