-- Letters turned to digits: digits stay.
use Rattle.std.proofs.Common.{◌≡◌, ℕ, ◌==◌, ◌≤◌, Bool, true, false, nat_le, map, List, [], ◌∷◌, Option, Some, None, IfSome, unwrap_or, leb-true, ne_eqb, refl, ap, ap₂, sym, ◌∙◌, arith}
use Rattle.std.proofs.lemmas.Bool.{and_parts, cond-false, cond-true, cond_both}
use Rattle.std.specs.List.{find}
use Rattle.phone_values.proofs.Finds.{IfSome-find, IfSome-option_map}
use Rattle.phone_chars.specs.Characters.{is_digit, is_one_of, key_letters, keypad}
use Rattle.phone_library_text.specs.Letters.{key_of}
use Rattle.phone_questions.specs.Letters.{as_key, with_keys}

keypad_is_digit : (c : ℕ) → IfSome (keypad c) (λ d. is_digit d ≡ true)
keypad_is_digit c = cond_both (is_digit c) (Some c) _ (λ o. IfSome o (λ d. is_digit d ≡ true)) (λ t. t)
    (λ f. IfSome-option_map (λ (k : ℕ × List ℕ). k.0) _ (λ d. is_digit d ≡ true) (find (λ (k : ℕ × List ℕ). is_one_of k.1 c) key_letters)
    (IfSome-find (λ (k : ℕ × List ℕ). is_one_of k.1 c) (λ (k : ℕ × List ℕ). is_digit k.0) key_letters refl) (λ k h. h.1))

key_is_digit : (c : ℕ) → IfSome (key_of c) (λ d. is_digit d ≡ true)
key_is_digit c = cond_both (c == 0x131) (Some 52) _ (λ o. IfSome o (λ d. is_digit d ≡ true)) (λ t. refl)
    (λ f. cond_both (c == 0x17F) (Some 55) _ (λ o. IfSome o (λ d. is_digit d ≡ true)) (λ t. refl) (λ g. keypad_is_digit c))

-- a digit has a key of its own
key_of_digit : (d : ℕ) → is_digit d ≡ true → key_of d ≡ Some d
key_of_digit d h =
    let high : d ≤ 57 = leb-true d 57 (and_parts (nat_le 48 d) (nat_le d 57) h).1 in
    cond-false _ _ _ (ne_eqb d 0x131 (omega (arith, high))) ∙ cond-false _ _ _ (ne_eqb d 0x17F (omega (arith, high))) ∙ cond-true _ _ _ h

key_again : (c : ℕ) (o : Option ℕ) → key_of c ≡ o → IfSome o (λ d. is_digit d ≡ true) → as_key (unwrap_or o c) ≡ unwrap_or o c
key_again c None e h = ap (λ (o : Option ℕ). unwrap_or o c) e
key_again c (Some d) e h = ap (λ (o : Option ℕ). unwrap_or o d) (key_of_digit d h)

pub with_keys-again : (t : List ℕ) → with_keys (with_keys t) ≡ with_keys t
with_keys-again [] = refl
with_keys-again (c ∷ cs) = ap₂ ◌∷◌ (key_again c (key_of c) refl (key_is_digit c)) (with_keys-again cs)
