-- The digits of a number are read as short numbers' digits as they stand.
use Rattle.std.proofs.Common.{◌≡◌, ℕ, suc, zero, ◌+◌, ◌/◌, ◌%◌, ◌<◌, ◌==◌, ◌&&◌, nat_le, true, false, not, if◌then◌else◌, List, [], ◌∷◌, chars, replicate, refl, ap, ap₂, ◌∙◌, arith, lt-ltb}
use Rattle.std.proofs.lemmas.Bool.{and_from, and_parts, cond-false, cond_both, le-leb, not-true, or_right}
use Rattle.std.proofs.lemmas.List.Folds.{list_all-append}
use Rattle.std.proofs.lemmas.Nat.{mod_below}
use Rattle.std.specs.Fmt.{decimal, digit_glyph, digits, digits_onto}
use Rattle.std.specs.List.{cons_option, filter_map, list_all}
use Rattle.phone_chars.specs.Characters.{is_digit, is_nd, is_one_of, is_plus}
use Rattle.phone_chars.specs.Cuts.{after_front}
use Rattle.phone_library_text.specs.Letters.{value_of}
use Rattle.phone_library_text.proofs.Digits.{value_digit}
use Rattle.phone_parts.specs.Cores.{begins_second_number, is_start}
use Rattle.phone_parts.specs.Texts.{begins}
use Rattle.phone_parts.proofs.PrintedInternational.{digit_nd}
use Rattle.phone_parts.proofs.PrintedTexts.{digit_passes}
use Rattle.phonenumber.proofs.BackTexts.{chars-low, low_digits}
use Rattle.phone_short.specs.Texts.{before_second, digits_in, from_start}
use Rattle.phone_values.specs.Numbers.{National, text_of}

-- a glyph of base ten is a digit
glyph_digit : (d : ℕ) → d < 10 → is_digit (digit_glyph false d) ≡ true
glyph_digit d less =
    ap (λ b. is_digit (if b then 48 + d else 87 + d)) (lt-ltb d 10 less)
    ∙ and_from (nat_le 48 (48 + d)) (nat_le (48 + d) 57) (le-leb 48 (48 + d) (omega arith)) (le-leb (48 + d) 57 (omega (arith, less)))

all_onto : (k n : ℕ) (acc : List ℕ) → list_all is_digit acc ≡ true → list_all is_digit (digits_onto k 10 false n acc) ≡ true
all_onto zero n acc are = are
all_onto (suc k) n acc are =
    let more : list_all is_digit (digit_glyph false (n % 10) ∷ acc) ≡ true = and_from _ _ (glyph_digit (n % 10) (mod_below n 10 (omega arith))) are in
    cond_both (n / 10 == 0) (digit_glyph false (n % 10) ∷ acc) (digits_onto k 10 false (n / 10) (digit_glyph false (n % 10) ∷ acc)) (λ t. list_all is_digit t ≡ true)
    (λ _. more) (λ _. all_onto k (n / 10) (digit_glyph false (n % 10) ∷ acc) more)

decimal_digits : (n : ℕ) → list_all is_digit (decimal n) ≡ true
unfolding digits
decimal_digits n = all_onto 64 n [] refl

zeros_digits : (k : ℕ) → list_all is_digit (replicate k 48) ≡ true
zeros_digits zero = refl
zeros_digits (suc k) = zeros_digits k

text_digits : (n : National) → list_all is_digit (text_of n) ≡ true
text_digits n = list_all-append is_digit (replicate n.zeros 48) (decimal n.value) ∙ and_from _ _ (zeros_digits n.zeros) (decimal_digits n.value)

-- a number starts at the first digit
started : (ds : List ℕ) → list_all is_digit ds ≡ true → from_start ds ≡ ds
started [] all = refl
started (d ∷ ds) all =
    let starts : is_start d ≡ true = or_right (is_plus d) (is_nd d) (digit_nd d (and_parts (is_digit d) (list_all is_digit ds) all).0) in
    cond-false (not (is_start d)) (from_start ds) (d ∷ ds) (ap not starts)

-- and no second one begins
no_mark : (d : ℕ) → is_digit d ≡ true → not (is_one_of (47 ∷ 92 ∷ []) d) ≡ true
no_mark = digit_passes (λ d. not (is_one_of (47 ∷ 92 ∷ []) d)) refl

unmarked : (d : ℕ) (ds : List ℕ) → is_digit d ≡ true → begins_second_number (d ∷ ds) ≡ false
unmarked d ds is = ap (λ b. b && begins (λ c. c == 120) (after_front (λ c. c == 32) ds)) (not-true _ (no_mark d is))

values : (ds : List ℕ) → list_all is_digit ds ≡ true → filter_map value_of (before_second ds) ≡ ds
values [] all = refl
values (d ∷ ds) all =
    let parts = and_parts (is_digit d) (list_all is_digit ds) all in
    ap (filter_map value_of) (cond-false (begins_second_number (d ∷ ds)) [] (d ∷ before_second ds) (unmarked d ds parts.0))
    ∙ ap₂ (λ o r. cons_option o r) (value_digit d parts.0) (values ds parts.1)

pub plain : (n : National) → digits_in (chars (text_of n)) ≡ text_of n
plain n =
    let all = text_digits n in
    ap digits_in (chars-low (text_of n) (low_digits (text_of n) all))
    ∙ ap (λ t. filter_map value_of (before_second t)) (started (text_of n) all)
    ∙ values (text_of n) all
