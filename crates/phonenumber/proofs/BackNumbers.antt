-- The text of a national number: it is digits, and it is read as the number.
use Rattle.std.proofs.Common.{◌≡◌, ℕ, zero, suc, ◌<◌, ◌≤◌, ◌^◌, ◌&&◌, true, List, [], ◌∷◌, length, replicate, Ok, refl, ap, ◌∙◌, arith}
use Rattle.std.proofs.lemmas.Bool.{and_from, cond-false, le-ltb}
use Rattle.std.proofs.lemmas.Fmt.{digits_decimal}
use Rattle.std.proofs.lemmas.List.Folds.{list_all-append}
use Rattle.std.proofs.lemmas.Str.Parse.{IsNumeralModel, numerals_by_value, tells_all_ascii_digits}
use Rattle.std.specs.Fmt.{decimal}
use Rattle.std.specs.List.{list_all}
use Rattle.std.specs.Str.{all_ascii_digits}
use Rattle.std.specs.Str.Parse.{digits_value}
use Rattle.phone_values.proofs.Digits.{national_in-text_of}
use Rattle.phone_chars.specs.Characters.{is_digit}
use Rattle.phone_values.specs.Nsn.{nsn}
use Rattle.phone_values.specs.Numbers.{IsHeld, National, text_of}

own : IsNumeralModel (λ ds. all_ascii_digits ds ≡ true) (digits_value 10)
own = numerals_by_value _ tells_all_ascii_digits

all_digits : (ds : List ℕ) → list_all is_digit ds ≡ all_ascii_digits ds
all_digits [] = refl
all_digits (d ∷ ds) = ap (λ b. is_digit d && b) (all_digits ds)

pub list_all-decimal : (n : ℕ) → n < 2 ^ 64 → list_all is_digit (decimal n) ≡ true
list_all-decimal n fits = all_digits (decimal n) ∙ digits_decimal own n fits

all_zeros : (k : ℕ) → list_all is_digit (replicate k 48) ≡ true
all_zeros zero = refl
all_zeros (suc k) = all_zeros k

pub list_all-text_of : (n : National) → IsHeld n → list_all is_digit (text_of n) ≡ true
list_all-text_of n held =
    let fits : n.value < 2 ^ 64 = omega (arith, held.1) in
    list_all-append is_digit (replicate n.zeros 48) (decimal n.value)
    ∙ and_from _ _ (all_zeros n.zeros) (list_all-decimal n.value fits)

-- a text of 2 to 17 bytes whose value is not 0
pub nsn-text_of : (n : National) → IsHeld n → 0 < n.value → 2 ≤ length (text_of n) → length (text_of n) ≤ 17 → nsn (text_of n) ≡ Ok n
nsn-text_of n held some long short =
    cond-false _ _ _ (le-ltb (length (text_of n)) 2 long)
    ∙ cond-false _ _ _ (le-ltb 17 (length (text_of n)) short)
    ∙ national_in-text_of n held.0 some held.1
