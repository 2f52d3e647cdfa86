-- How plain numbers are written: ASCII digits, with a plus sign before them or without.
use Rattle.std.proofs.Common.{◌≡◌, inl, inr, ℕ, ◌-◌, ◌≤◌, ◌+◌, Bool, true, false, ◌==◌, List, [], ◌∷◌, length, Option, Some, None, Ok, cond, nat_le, refl, ap, sym, subst, ◌∙◌, arith, eq-eqb, eqb-true, true≢false}
use Rattle.std.proofs.lemmas.Bool.{and_from, and_parts, cond-false, cond-true, or_left, or_parts, or_right}
use Rattle.std.proofs.lemmas.List.Sums.{sum_by-cons}
use Rattle.std.specs.List.{count_by, filter_map, list_all, list_any}
use Rattle.std.specs.Option.{option_map_or}
use Rattle.ucd_category.proofs.Computing.{ucd_category}
use Rattle.phone_chars.specs.Characters.{is_alpha, is_digit, is_nd, is_plus}
use Rattle.phone_chars.specs.Cuts.{after_front}
use Rattle.phone_parts.specs.Cores.{IsCore, is_last, is_start}
use Rattle.phone_parts.specs.Texts.{begins, ends}
use Rattle.phone_parts.proofs.Cores.{undivided, whole_core}
use Rattle.phone_parts.proofs.Ends.{all_wider, ends-append}
use Rattle.phone_parts.proofs.PrintedCores.{unslashed}
use Rattle.phone_parts.proofs.PrintedTexts.{digit_apart, digit_passes, is_slash, none_apart}
use Rattle.phone_parts.proofs.Runs.{run_begins}
use Rattle.phone_library_text.specs.Letters.{digits_in, key_of, value_of}
use Rattle.phone_library_text.specs.NumberTexts
use Rattle.phone_library_text.specs.NumberTexts.{HasNumberText}
use Rattle.phone_library_text.specs.Viable
use Rattle.phone_library_text.specs.Viable.{HasNumber, IsViable}
use Rattle.phone_library_text.specs.Written
use Rattle.phone_library_text.specs.Written.{IsWritten, most_characters}
use Rattle.phone_library_text.proofs.ExtensionOnes.{no_extension}
use Rattle.phone_library_text.proofs.NumbersIn.{no_context, no_subaddress}
use Rattle.phone_library_text.proofs.Outers.{ends_all, is_inner}
use Rattle.phone_library_text.proofs.Signed.{number_walk, signed_of_walk}
use Rattle.phone_library_text.proofs.WrittenOnes.{written_as}

-- ---- ASCII digits

digit_is_nd : (c : ℕ) → is_digit c ≡ true → is_nd c ≡ true
unfolding ucd_category
digit_is_nd = digit_passes is_nd refl

digit_is_last : (c : ℕ) → is_digit c ≡ true → is_last c ≡ true
unfolding ucd_category
digit_is_last = digit_passes is_last refl

digit_starts : (c : ℕ) → is_digit c ≡ true → is_start c ≡ true
digit_starts c h = or_right (is_plus c) (is_nd c) (digit_is_nd c h)

all_inner : (d : List ℕ) → list_all is_digit d ≡ true → list_all is_inner d ≡ true
all_inner d digits = all_wider is_digit is_inner (λ c h. or_left (is_nd c) (c == 43) (digit_is_nd c h)) d digits

plus_inner : is_inner 43 ≡ true
plus_inner = or_right (is_nd 43) true refl

some_digit : (d : List ℕ) → 3 ≤ length d → ¬ (d ≡ [])
some_digit d some e = omega (arith, some, ap length e)

-- the value of each is itself
is_value : (c : ℕ) → option_map_or (λ v. v == c) (value_of c) false ≡ true → value_of c ≡ Some c
is_value c h = at (value_of c) refl h
  where
    at : (o : Option ℕ) → value_of c ≡ o → option_map_or (λ v. v == c) o false ≡ true → value_of c ≡ Some c
    at None e f = absurd (true≢false (sym f))
    at (Some v) e f = e ∙ ap (λ x. Some x) (eqb-true v c f)

digit_value : (c : ℕ) → is_digit c ≡ true → value_of c ≡ Some c
digit_value c h = is_value c (digit_passes (λ x. option_map_or (λ v. v == x) (value_of x) false) refl c h)

values : (d : List ℕ) → list_all is_digit d ≡ true → filter_map value_of d ≡ d
values [] digits = refl
values (c ∷ d) digits =
    let parts = and_parts (is_digit c) (list_all is_digit d) digits in
    rw (digit_value c parts.0) (ap (λ t. c ∷ t) (values d parts.1))

none_counted : (p : ℕ → Bool) (xs : List ℕ) → list_any p xs ≡ false → count_by p xs ≡ 0
none_counted p [] none = refl
none_counted p (x ∷ xs) none =
    let parts = or_parts (p x) (list_any p xs) none in
    sum_by-cons (λ y. cond (p y) 1 0) x xs ∙ ap (λ b. cond b 1 0 + count_by p xs) parts.0 ∙ ap (λ n. 0 + n) (none_counted p xs parts.1)

-- the digits of a text without letters are their values
unlettered : (t : List ℕ) → list_any is_alpha t ≡ false → digits_in t ≡ filter_map value_of t
unlettered t none = ap (λ n. filter_map (cond (nat_le 3 n) key_of value_of) t) (none_counted is_alpha t none)

no_letter : (d : List ℕ) → list_all is_digit d ≡ true → list_any is_alpha d ≡ false
no_letter d digits = none_apart is_alpha is_digit (digit_apart is_alpha refl) d digits

-- ---- both forms: a text of which the digits are the end

walk_digits : (n : ℕ) (d : List ℕ) → list_all is_digit d ≡ true → n ≤ length d → number_walk n d ≡ true
walk_digits n [] digits some = eq-eqb n 0 (omega (arith, some))
walk_digits n (c ∷ d) digits some =
    let parts = and_parts (is_digit c) (list_all is_digit d) digits in
    cond-true _ _ _ (digit_is_nd c parts.0) ∙ walk_digits (n - 1) d parts.1 (omega (arith, some))

after_no_plus : (d : List ℕ) → list_all is_digit d ≡ true → after_front is_plus d ≡ d
after_no_plus [] digits = refl
after_no_plus (c ∷ d) digits = cond-false _ _ _ (digit_apart is_plus refl c (and_parts (is_digit c) (list_all is_digit d) digits).0)

module _ (t d : List ℕ) (inner : list_all is_inner t ≡ true) (starts : begins is_start t ≡ true) (last : ends is_last t ≡ true) (plain : list_any (λ c. c == 59) t ≡ false)
    (slashless : list_any is_slash t ≡ false) (walk : number_walk 3 (after_front is_plus t) ≡ true) (digits : digits_in t ≡ d) (le : length t ≤ most_characters) where
  core : IsCore t t
  core = whole_core t starts last (undivided t (λ k less. unslashed t slashless k))

  text : HasNumberText t (Some t)
  text = subst (λ n. HasNumberText t (Some n)) (no_subaddress t plain) (NumberTexts.free t (no_context t plain) core)

  viable : IsViable t
  viable = inr (inl (signed_of_walk t walk))

  number : HasNumber t t None
  number = Viable.plain (no_extension t inner)

  written : (plus : Bool) → plus ≡ begins is_plus t → IsWritten t (Ok (record { has_plus = plus; digits = d; extension = None }))
  written plus e = Written.something t (Ok (record { has_plus = plus; digits = d; extension = None })) le text (written_as t t None plus d None viable number e (sym digits) refl)

-- ---- with a plus sign, and without
pub international_written : (d : List ℕ) → list_all is_digit d ≡ true → 3 ≤ length d → length (43 ∷ d) ≤ most_characters →
    IsWritten (43 ∷ d) (Ok (record { has_plus = true; digits = d; extension = None }))
international_written d digits some le =
    written (43 ∷ d) d (and_from _ _ plus_inner (all_inner d digits)) refl
    (ends-append is_last (43 ∷ []) d (some_digit d some) ∙ ends_all is_last d (some_digit d some) (all_wider is_digit is_last digit_is_last d digits))
    (none_apart (λ c. c == 59) is_digit (digit_apart (λ c. c == 59) refl) d digits) (none_apart is_slash is_digit (digit_apart is_slash refl) d digits)
    (ap (number_walk 3) (after_no_plus d digits) ∙ walk_digits 3 d digits some) (unlettered (43 ∷ d) (no_letter d digits) ∙ values d digits) le true refl

pub national_written : (d : List ℕ) → list_all is_digit d ≡ true → 3 ≤ length d → length d ≤ most_characters →
    IsWritten d (Ok (record { has_plus = false; digits = d; extension = None }))
national_written d digits some le =
    written d d (all_inner d digits) (run_begins is_start d (all_wider is_digit is_start digit_starts d digits) (some_digit d some))
    (ends_all is_last d (some_digit d some) (all_wider is_digit is_last digit_is_last d digits))
    (none_apart (λ c. c == 59) is_digit (digit_apart (λ c. c == 59) refl) d digits) (none_apart is_slash is_digit (digit_apart is_slash refl) d digits)
    (ap (number_walk 3) (after_no_plus d digits) ∙ walk_digits 3 d digits some) (unlettered d (no_letter d digits) ∙ values d digits) le false (sym (no_plus d digits))
  where
    no_plus : (d : List ℕ) → list_all is_digit d ≡ true → begins is_plus d ≡ false
    no_plus [] digits = refl
    no_plus (c ∷ d) digits = digit_apart is_plus refl c (and_parts (is_digit c) (list_all is_digit d) digits).0
