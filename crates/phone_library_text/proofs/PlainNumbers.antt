-- Numbers of ASCII digits alone, found by their bytes.
use Rattle.std.proofs.Common.{◌≡◌, ℕ, zero, suc, ◌≤◌, Bool, true, false, List, [], ◌∷◌, ◌++◌, length, Option, None, Some, IfSome, Ok, refl, ap, sym, subst, ◌∙◌, arith, true≢false}
use Rattle.std.proofs.lemmas.Bool.{and_parts}
use Rattle.std.proofs.lemmas.Fmt.{IsAscii-from_digits}
use Rattle.std.proofs.lemmas.Str.{chars-IsAscii}
use Rattle.std.specs.List.{list_all}
use Rattle.std.specs.Str.{IsAscii, chars}
use Rattle.phone_values.proofs.ReadBack.{all_digits}
use Rattle.phone_chars.specs.Characters.{is_digit}
use Rattle.phone_library_text.specs.Written.{IsWritten, most_characters}
use Rattle.phone_library_text.proofs.PlainWritten.{international_written, national_written}

digits_ascii : (d : List ℕ) → list_all is_digit d ≡ true → IsAscii d
digits_ascii d digits = IsAscii-from_digits d (all_digits d digits)

signed_ascii : (d : List ℕ) → list_all is_digit d ≡ true → IsAscii (43 ∷ d)
signed_ascii d digits zero = omega arith
signed_ascii d digits (suc i) = digits_ascii d digits i

-- what is said of a text that is digits alone, with a plus sign before them or without
abbrev pub IsPlain : List ℕ → Bool → List ℕ → Type 0
IsPlain t has_plus d = length t ≤ most_characters → IsWritten t (Ok (record { has_plus = has_plus; digits = d; extension = None }))

pub signed : (t rest d : List ℕ) → t ≡ 43 ∷ rest → d ≡ rest → list_all is_digit rest ≡ true → 3 ≤ length rest → IsPlain (chars t) true d
signed t rest d whole same digits some =
    let read : chars t ≡ 43 ∷ rest = ap chars whole ∙ chars-IsAscii (43 ∷ rest) (signed_ascii rest digits) in
    subst (λ x. IsPlain (chars t) true x) (sym same) (subst (λ x. IsPlain x true rest) (sym read) (international_written rest digits some))

pub unsigned : (t d : List ℕ) → d ≡ t → list_all is_digit t ≡ true → 3 ≤ length t → IsPlain (chars t) false d
unsigned t d same digits some =
    subst (λ x. IsPlain (chars t) false x) (sym same) (subst (λ x. IsPlain x false t) (sym (chars-IsAscii t (digits_ascii t digits))) (national_written t digits some))

some_again : {T : Type 0} (o : Option T) (P Q : T → Type 0) → ((x : T) → P x → Q x) → IfSome o P → IfSome o Q
some_again None P Q so h = h
some_again (Some x) P Q so h = so x h

module _ {T : Type 0} (plus : T → Bool) (lent : T → List ℕ) (found : Option T) where
  -- what is found in bytes, where a plus sign stands before them or not
  abbrev pub IsFound : Bool → List ℕ → Type 0
  IsFound has_plus d = IfSome found (λ p. (plus p ≡ has_plus) × (lent p ≡ d) × (list_all is_digit d ≡ true) × (3 ≤ length d))

  pub if_signed : (t rest : List ℕ) → t ≡ 43 ∷ rest → IsFound true rest → IfSome found (λ p. IsPlain (chars t) (plus p) (lent p))
  if_signed t rest whole h =
      some_again found _ _ (λ p (sign, same, digits, some). subst (λ b. IsPlain (chars t) b (lent p)) (sym sign) (signed t rest (lent p) whole same digits some)) h

  pub if_unsigned : (t : List ℕ) → IsFound false t → IfSome found (λ p. IsPlain (chars t) (plus p) (lent p))
  if_unsigned t h =
      some_again found _ _ (λ p (sign, same, digits, some). subst (λ b. IsPlain (chars t) b (lent p)) (sym sign) (unsigned t (lent p) same digits some)) h

-- the bytes of at least three digits
abbrev pub AreDigits : List ℕ → Type 0
AreDigits d = (list_all is_digit d ≡ true) × (3 ≤ length d)

no_plus : (rest d : List ℕ) → list_all is_digit d ≡ true → ¬ (43 ∷ rest ≡ d)
no_plus rest [] digits e = cc
no_plus rest (c ∷ d) digits e =
    let same : 43 ≡ c = cc in
    let digit = (and_parts (is_digit c) (list_all is_digit d) digits).0 in
    true≢false (sym (ap is_digit same ∙ digit))

pub other_signed : (t rest : List ℕ) → t ≡ 43 ∷ rest → ¬ (AreDigits rest) → (d : List ℕ) → list_all is_digit d ≡ true → 3 ≤ length d →
    ¬ (t ≡ d) × ¬ (t ≡ 43 ∷ d)
other_signed t rest whole none d digits some =
    (λ e. no_plus rest d digits (sym whole ∙ e), λ e. let same : rest ≡ d = (let f = sym whole ∙ e in cc) in none (subst AreDigits (sym same) (digits, some)))

pub other_unsigned : (t : List ℕ) → ((rest : List ℕ) → ¬ (t ≡ 43 ∷ rest)) → ¬ (AreDigits t) → (d : List ℕ) → list_all is_digit d ≡ true → 3 ≤ length d →
    ¬ (t ≡ d) × ¬ (t ≡ 43 ∷ d)
other_unsigned t no_sign none d digits some = (λ e. none (subst AreDigits (sym e) (digits, some)), λ e. no_sign d e)
