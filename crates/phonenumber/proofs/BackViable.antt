-- Digits with punctuation between them: their norm, and that they are viable.
use Rattle.std.proofs.Common.{◌≡◌, inl, inr, ℕ, zero, suc, ◌<◌, ◌≤◌, ◌&&◌, ◌||◌, not, Bool, true, false, if◌then◌else◌, List, [], ◌∷◌, ◌++◌, length, filter, Option, None, Some, refl, ap, sym, ◌∙◌, arith, true≢false}
use Rattle.std.proofs.lemmas.Bool.{and_from, and_parts, cond-false, cond-true, false_from_ne_true, not-true, or_cases, or_left, or_right}
use Rattle.std.proofs.lemmas.List.Sums.{length-filter}
use Rattle.std.specs.List.{cons_option, count_by, list_all, slice_index}
use Rattle.phone_chars.proofs.Signed.{digit_is_early}
use Rattle.phone_chars.specs.Characters.{digit_of, is_digit, is_one_of, is_plus, is_punctuation, punctuation}
use Rattle.phone_chars.specs.Norm.{norm}
use Rattle.phone_chars.specs.Viable.{IsViable, is_allowed, is_early}
use Rattle.phone_parts.proofs.Endings.{member_passes}
use Rattle.phone_parts.proofs.Ends.{all_wider}

-- `x` and the tildes, which may announce an extension
abbrev pub indicating : List ℕ
indicating = 120 ∷ 126 ∷ 0xFF5E ∷ []

-- other punctuation
abbrev pub is_quiet : ℕ → Bool
is_quiet c = is_punctuation c && not (is_one_of indicating c)

-- a digit, or what stands between digits and announces nothing
abbrev pub is_parted : ℕ → Bool
is_parted c = is_digit c || is_quiet c

-- nothing is there
abbrev is_none : Option ℕ → Bool
is_none None = true
is_none (Some d) = false

none_of : (o : Option ℕ) → is_none o ≡ true → o ≡ None
none_of None e = refl
none_of (Some d) e = absurd (true≢false (sym e))

-- quiet punctuation stands for no digit
pub digit_of-quiet : (c : ℕ) → is_quiet c ≡ true → digit_of c ≡ None
digit_of-quiet c quiet =
    let both = and_parts (is_punctuation c) (not (is_one_of indicating c)) quiet in
    let told : (is_one_of indicating c || is_none (digit_of c)) ≡ true =
    member_passes (λ c. is_one_of indicating c || is_none (digit_of c)) punctuation c refl both.0 in
    none_of (digit_of c) (rw (not-true (is_one_of indicating c) both.1) at told)

digit_of-digit : (c : ℕ) → is_digit c ≡ true → digit_of c ≡ Some c
digit_of-digit c digit = rw digit

-- so what such a text is normalised to is its digits
pub norm-parted : (t : List ℕ) → list_all is_parted t ≡ true → norm t ≡ filter is_digit t
norm-parted [] h = refl
norm-parted (c ∷ cs) h =
    let both = and_parts (is_parted c) (list_all is_parted cs) h in
    at (is_digit c) refl both.0 (norm-parted cs both.1)
  where
    at : (b : Bool) → is_digit c ≡ b → (b || is_quiet c) ≡ true → norm cs ≡ filter is_digit cs →
        cons_option (digit_of c) (norm cs) ≡ (if b then c ∷ filter is_digit cs else filter is_digit cs)
    at true digit parted e = ap (λ o. cons_option o (norm cs)) (digit_of-digit c digit) ∙ ap (λ ds. c ∷ ds) e
    at false digit parted e = ap (λ o. cons_option o (norm cs)) (digit_of-quiet c parted) ∙ e

pub parted_digit : (c : ℕ) → is_digit c ≡ true → is_parted c ≡ true
parted_digit c digit = or_left _ _ digit

parted_early : (c : ℕ) → is_parted c ≡ true → is_early c ≡ true
parted_early c e = elim (or_cases (is_digit c) (is_quiet c) e) [
  | inl digit ↦ digit_is_early c digit
  | inr quiet ↦ or_left _ _ (or_left _ _ (and_parts (is_punctuation c) (not (is_one_of indicating c)) quiet).0)
]

pub all_allowed : (t : List ℕ) → list_all is_parted t ≡ true → list_all is_allowed t ≡ true
all_allowed t parted = all_wider is_parted is_allowed (λ c e. or_left _ _ (parted_early c e)) t parted

each_early : (t : List ℕ) → list_all is_early t ≡ true → (k : ℕ) → k < length t → is_early (slice_index t k) ≡ true
each_early [] h k less = absurd (omega (arith, less))
each_early (c ∷ cs) h zero less = (and_parts (is_early c) (list_all is_early cs) h).0
each_early (c ∷ cs) h (suc k) less = each_early cs (and_parts (is_early c) (list_all is_early cs) h).1 k (omega arith)

-- plus signs and such a text with at least three digits
pub viable-parted : (signs body : List ℕ) → list_all is_plus signs ≡ true → list_all is_parted body ≡ true → 3 ≤ length (norm body) → IsViable (signs ++ body)
viable-parted signs body plus parted three =
    let early = all_wider is_parted is_early parted_early body parted in
    let count : length (norm body) ≡ count_by is_digit body = ap length (norm-parted body parted) ∙ length-filter is_digit body in
    inr (record {
      signs = signs;
      body = body;
      whole = refl;
      only_signs = plus;
      only_allowed = all_allowed body parted;
      three_digits = omega (arith, count, three);
      no_early_letter = λ k less few. each_early body early k less;
    })

-- characters between digits, among which no digit is
module _ (between : ℕ → Bool) (other : (c : ℕ) → is_digit c ≡ true → between c ≡ false) where
  no_digit : (c : ℕ) → between c ≡ true → is_digit c ≡ false
  no_digit c e = false_from_ne_true _ (λ digit. true≢false (sym e ∙ other c digit))

  -- where nothing but digits is left without them, all are digits or among them
  pub all_from_left : (t : List ℕ) → list_all is_digit (filter (λ c. not (between c)) t) ≡ true → list_all (λ c. is_digit c || between c) t ≡ true
  all_from_left [] h = refl
  all_from_left (c ∷ cs) h = at (between c) h (all_from_left cs)
    where
      left : List ℕ
      left = filter (λ c. not (between c)) cs

      at : (b : Bool) → list_all is_digit (if not b then c ∷ left else left) ≡ true → (list_all is_digit left ≡ true → list_all (λ c. is_digit c || between c) cs ≡ true) →
          ((is_digit c || b) && list_all (λ c. is_digit c || between c) cs) ≡ true
      at true e more = and_from _ _ (or_right _ _ refl) (more e)
      at false e more = let both = and_parts (is_digit c) (list_all is_digit left) e in and_from _ _ (or_left _ _ both.0) (more both.1)

  -- and the digits are what is left
  pub digits_left : (t : List ℕ) → list_all (λ c. is_digit c || between c) t ≡ true → filter is_digit t ≡ filter (λ c. not (between c)) t
  digits_left [] h = refl
  digits_left (c ∷ cs) h =
      let both = and_parts (is_digit c || between c) (list_all (λ c. is_digit c || between c) cs) h in
      at (between c) refl both.0 (digits_left cs both.1)
    where
      left : List ℕ
      left = filter (λ c. not (between c)) cs

      at : (b : Bool) → between c ≡ b → (is_digit c || b) ≡ true → filter is_digit cs ≡ left → filter is_digit (c ∷ cs) ≡ (if not b then c ∷ left else left)
      at true e parted more = cond-false _ _ _ (no_digit c e) ∙ more
      at false e parted more = elim (or_cases (is_digit c) false parted) [
        | inl digit ↦ cond-true _ _ _ digit ∙ ap (λ ds. c ∷ ds) more
        | inr nothing ↦ absurd (true≢false (sym nothing))
      ]

  -- of characters among them no digit is left
  pub no_digits : (t : List ℕ) → list_all between t ≡ true → filter is_digit t ≡ []
  no_digits [] h = refl
  no_digits (c ∷ cs) h =
      let both = and_parts (between c) (list_all between cs) h in cond-false _ _ _ (no_digit c both.0) ∙ no_digits cs both.1
