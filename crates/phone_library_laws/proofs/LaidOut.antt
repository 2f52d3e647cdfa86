-- Digits with quiet punctuation between them: they are viable, have no extension, and the digits in
-- them are read.
use Rattle.std.proofs.Common.{◌≡◌, inl, inr, ℕ, ◌+◌, ◌-◌, ◌≤◌, ◌==◌, ◌||◌, nat_le, Bool, true}
use Rattle.std.proofs.Common.{false, not, cond, List, [], ◌∷◌, length, filter, Option, None, Some}
use Rattle.std.proofs.Common.{refl, ap, ap₂, sym, ◌∙◌, arith, eq-eqb, eqb-true, true≢false}
use Rattle.std.proofs.lemmas.Bool.{and_from, and_parts, cond-false, cond-true, not-true, or_cases}
use Rattle.std.proofs.lemmas.Bool.{or_left, or_right}
use Rattle.std.proofs.lemmas.List.Sums.{sum_by-cons}
use Rattle.std.specs.List.{cons_option, count_by, filter_map, list_all}
use Rattle.std.specs.Option.{option_map_or}
use Rattle.ucd_case.proofs.Computing.{ucd_case}
use Rattle.ucd_category.proofs.Computing.{ucd_category}
use Rattle.ucd_category.proofs.GeneralCategoryLemmas.{general_category_number_injective}
use Rattle.ucd_category.specs.GeneralCategory.{general_category, general_category_number}
use Rattle.ucd_category.specs.GeneralCategoryGroup.{in_group}
use Rattle.ucd_category.specs.declared.GeneralCategory.TheVariants.{DecimalNumber}
use Rattle.ucd_category.specs.declared.GeneralCategoryGroup.TheVariants.{Number}
use Rattle.phone_chars.specs.Characters.{is_alpha, is_digit, is_nd, is_one_of, is_plus}
use Rattle.phone_chars.specs.Characters.{is_punctuation, punctuation}
use Rattle.phone_chars.specs.Cuts.{after_front}
use Rattle.phone_parts.specs.Cores.{is_last}
use Rattle.phone_parts.proofs.Endings.{member_passes}
use Rattle.phone_parts.proofs.Ends.{all_wider}
use Rattle.phone_parts.proofs.PrintedTexts.{ascii_digits, digit_passes}
use Rattle.phone_library_text.specs.Extensions.{HasNoExtension}
use Rattle.phone_library_text.specs.Letters.{digits_in, is_early, key_of, value_of}
use Rattle.phone_library_text.specs.Viable.{IsSignedDigits}
use Rattle.phone_library_text.proofs.Signed.{number_walk, signed_of_walk}
use Rattle.phone_library_laws.specs.Layouts.{announcing, is_quiet}
use Rattle.phone_library_laws.proofs.Silent.{is_silent, silent_no_extension}

-- a digit, or what stands between digits
abbrev pub is_parted : ℕ → Bool
is_parted c = is_digit c || is_quiet c

-- besides, a plus sign
abbrev pub is_written : ℕ → Bool
is_written c = is_plus c || is_parted c

-- ---- what holds of these characters

pub digit_nd : (c : ℕ) → is_digit c ≡ true → is_nd c ≡ true
unfolding ucd_category
digit_nd = digit_passes is_nd refl

-- a digit of any script is a number's last character
pub nd_last : (c : ℕ) → is_nd c ≡ true → is_last c ≡ true
nd_last c h =
    let same : general_category c ≡ DecimalNumber =
    general_category_number_injective (general_category c) DecimalNumber
    (eqb-true (general_category_number (general_category c))
    (general_category_number DecimalNumber) h) in
    or_left _ _ (or_right _ _ (ap (in_group Number) same))

-- what holds of all punctuation but the marks that may announce holds of what is quiet
pub quiet_passes : (q : ℕ → Bool) →
    list_all (λ c. is_one_of announcing c || q c) punctuation ≡ true → (c : ℕ) →
    is_quiet c ≡ true → q c ≡ true
quiet_passes q all c h =
    let parts = and_parts (is_punctuation c) (not (is_one_of announcing c)) h in
    let told : (is_one_of announcing c || q c) ≡ true =
    member_passes (λ x. is_one_of announcing x || q x) punctuation c all parts.0 in
    rw (not-true (is_one_of announcing c) parts.1) at told

parted_passes : (q : ℕ → Bool) → list_all q ascii_digits ≡ true →
    list_all (λ c. is_one_of announcing c || q c) punctuation ≡ true →
    (c : ℕ) → is_parted c ≡ true → q c ≡ true
parted_passes q digits marks c h = elim (or_cases (is_digit c) (is_quiet c) h) [
  | inl digit ↦ digit_passes q digits c digit
  | inr quiet ↦ quiet_passes q marks c quiet
]

written_passes : (q : ℕ → Bool) → list_all q (43 ∷ 0xFF0B ∷ []) ≡ true →
    list_all q ascii_digits ≡ true →
    list_all (λ c. is_one_of announcing c || q c) punctuation ≡ true → (c : ℕ) →
    is_written c ≡ true → q c ≡ true
written_passes q plus digits marks c h = elim (or_cases (is_plus c) (is_parted c) h) [
  | inl sign ↦ member_passes q (43 ∷ 0xFF0B ∷ []) c plus sign
  | inr parted ↦ parted_passes q digits marks c parted
]

quiet_nd : (c : ℕ) → is_quiet c ≡ true → not (is_nd c) ≡ true
unfolding ucd_category
quiet_nd = quiet_passes (λ c. not (is_nd c)) refl

quiet_early : (c : ℕ) → is_quiet c ≡ true → is_early c ≡ true
unfolding ucd_category
quiet_early = quiet_passes is_early refl

pub written_silent : (c : ℕ) → is_written c ≡ true → is_silent c ≡ true
unfolding ucd_case
written_silent = written_passes is_silent refl refl refl

written_alpha : (c : ℕ) → is_written c ≡ true → not (is_alpha c) ≡ true
written_alpha = written_passes (λ c. not (is_alpha c)) refl refl refl

pub written_plain : (c : ℕ) → is_written c ≡ true → not (c == 59) ≡ true
written_plain = written_passes (λ c. not (c == 59)) refl refl refl

pub written_no_x : (c : ℕ) → is_written c ≡ true → not (c == 120) ≡ true
written_no_x = written_passes (λ c. not (c == 120)) refl refl refl

parted_no_plus : (c : ℕ) → is_parted c ≡ true → not (is_plus c) ≡ true
parted_no_plus = parted_passes (λ c. not (is_plus c)) refl refl

-- the value of a digit is itself, and that of no other such character
abbrev is_none : Option ℕ → Bool
is_none None = true
is_none (Some d) = false

none_of : (o : Option ℕ) → is_none o ≡ true → o ≡ None
none_of None e = refl
none_of (Some d) e = absurd (true≢false (sym e))

some_of : (c : ℕ) (o : Option ℕ) → option_map_or (λ v. v == c) o false ≡ true → o ≡ Some c
some_of c None h = absurd (true≢false (sym h))
some_of c (Some v) h = ap (λ x. Some x) (eqb-true v c h)

-- the test: a digit has itself for its value, another character none
abbrev is_told : ℕ → Bool
is_told c = cond (is_digit c) (option_map_or (λ v. v == c) (value_of c) false)
    (is_none (value_of c))

written_told : (c : ℕ) → is_written c ≡ true → is_told c ≡ true
written_told = written_passes is_told refl refl refl

values : (t : List ℕ) → list_all is_written t ≡ true → filter_map value_of t ≡ filter is_digit t
values [] all = refl
values (c ∷ cs) all =
    let parts = and_parts (is_written c) (list_all is_written cs) all in
    at (is_digit c) refl (written_told c parts.0) (values cs parts.1)
  where
    at : (b : Bool) → is_digit c ≡ b →
        cond b (option_map_or (λ v. v == c) (value_of c) false) (is_none (value_of c)) ≡ true →
        filter_map value_of cs ≡ filter is_digit cs →
        cons_option (value_of c) (filter_map value_of cs) ≡ cond b (c ∷ filter is_digit cs)
        (filter is_digit cs)
    at true digit told e = ap₂ (λ o r. cons_option o r) (some_of c (value_of c) told) e
    at false digit told e = ap₂ (λ o r. cons_option o r) (none_of (value_of c) told) e

none_counted : (p : ℕ → Bool) (xs : List ℕ) → list_all (λ c. not (p c)) xs ≡ true →
    count_by p xs ≡ 0
none_counted p [] none = refl
none_counted p (x ∷ xs) none =
    let parts = and_parts (not (p x)) (list_all (λ c. not (p c)) xs) none in
    sum_by-cons (λ y. cond (p y) 1 0) x xs
    ∙ ap₂ (λ b n. cond b 1 0 + n) (not-true (p x) parts.0) (none_counted p xs parts.1)

-- the digits of such a text are its ASCII digits
pub written_digits : (t : List ℕ) → list_all is_written t ≡ true → digits_in t ≡ filter is_digit t
written_digits t all =
    ap (λ n. filter_map (cond (nat_le 3 n) key_of value_of) t)
    (none_counted is_alpha t (all_wider is_written (λ c. not (is_alpha c)) written_alpha t all))
    ∙ values t all

-- it has no extension
pub written_no_extension : (t : List ℕ) → list_all is_written t ≡ true → HasNoExtension t
written_no_extension t all = silent_no_extension t
    (all_wider is_written is_silent written_silent t all)

-- with enough digits it may be a number
walk_parted : (n : ℕ) (t : List ℕ) → list_all is_parted t ≡ true → n ≤ length (filter is_digit t) →
    number_walk n t ≡ true
walk_parted n [] all some = eq-eqb n 0 (omega (arith, some))
walk_parted n (c ∷ cs) all some =
    let parts = and_parts (is_parted c) (list_all is_parted cs) all in
    at (is_digit c) refl parts.0 (λ m more. walk_parted m cs parts.1 more) some
  where
    at : (b : Bool) → is_digit c ≡ b → (b || is_quiet c) ≡ true →
        ((m : ℕ) → m ≤ length (filter is_digit cs) → number_walk m cs ≡ true) →
        n ≤ length (cond b (c ∷ filter is_digit cs) (filter is_digit cs)) →
        number_walk n (c ∷ cs) ≡ true
    at true digit h rest more = cond-true _ _ _ (digit_nd c digit)
        ∙ rest (n - 1) (omega (arith, more))
    at false digit h rest more =
        cond-false _ _ _ (not-true (is_nd c) (quiet_nd c h))
        ∙ and_from _ _ (or_left _ _ (quiet_early c h)) (rest n more)

no_plus : (t : List ℕ) → list_all is_parted t ≡ true → after_front is_plus t ≡ t
no_plus [] all = refl
no_plus (c ∷ cs) all = cond-false _ _ _
    (not-true (is_plus c) (parted_no_plus c
    (and_parts (is_parted c) (list_all is_parted cs) all).0))

pub parted_viable : (t : List ℕ) → list_all is_parted t ≡ true → 3 ≤ length (filter is_digit t) →
    IsSignedDigits t
parted_viable t all some = signed_of_walk t (ap (number_walk 3) (no_plus t all)
    ∙ walk_parted 3 t all some)

pub signed_viable : (t : List ℕ) → list_all is_parted t ≡ true → 3 ≤ length (filter is_digit t) →
    IsSignedDigits (43 ∷ t)
signed_viable t all some = signed_of_walk (43 ∷ t) (ap (number_walk 3) (no_plus t all)
    ∙ walk_parted 3 t all some)
