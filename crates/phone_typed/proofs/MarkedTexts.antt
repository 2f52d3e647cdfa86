-- How texts of digits, marks and plus signs are taken by libphonenumber's rules: no extension stands in them, and their digits are their own values.
use Rattle.std.proofs.Common.{◌≡◌, ⊎_elim, ℕ, zero, suc, ◌+◌, ◌-◌, ◌≤◌, ◌==◌, ◌||◌, Bool, true, false, not, cond, nat_le, List, [], ◌∷◌, ◌++◌, length, map, drop, codes, filter, refl, ap, sym, ◌∙◌, true≢false, eqb-true, eq-eqb, arith}
use Rattle.std.proofs.lemmas.Bool.{and_from, and_parts, cond-false, cond-true, not-true, or_cases, or_left, or_parts}
use Rattle.std.proofs.lemmas.List.Folds.{list_all-append}
use Rattle.std.proofs.lemmas.List.Sums.{sum_by-cons}
use Rattle.std.proofs.lemmas.Slice.Eq.{bytes_eq-Decides}
use Rattle.std.specs.List.{count_by, filter_map, list_all, list_any}
use Rattle.ucd_case.proofs.Computing.{ucd_case}
use Rattle.ucd_category.proofs.Computing.{ucd_category}
use Rattle.phone_chars.specs.Characters.{is_alpha, is_digit, is_nd, is_plus}
use Rattle.phone_chars.specs.Cuts.{after_front}
use Rattle.phone_parts.proofs.Endings.{member_passes}
use Rattle.phone_parts.proofs.Ends.{all_wider}
use Rattle.phone_parts.proofs.PrintedTexts.{ascii_digits, digit_passes, none_apart}
use Rattle.phone_parts.specs.Suffixes.{is_lead, is_sign}
use Rattle.phone_library_text.specs.Announcements
use Rattle.phone_library_text.specs.Announcements.{Announces, IsLabelled, are_commas, is_blank, is_word_of, pauses, signs, words}
use Rattle.phone_library_text.specs.Extensions.{HasNoExtension}
use Rattle.phone_library_text.specs.Letters.{digits_in, folded, is_alike, is_early, key_of, value_of}
use Rattle.phone_library_text.proofs.Digits.{value_digit, value_none}
use Rattle.phone_library_text.proofs.Signed.{number_walk}
use Rattle.phone_typed.specs.Keys.{is_key, is_mark}

abbrev pub marks : List ℕ
marks = 32 ∷ 40 ∷ 41 ∷ 45 ∷ 46 ∷ []

-- digits, the plus sign and marks
abbrev pub may_stand : ℕ → Bool
may_stand c = is_key c || is_mark c

-- digits and marks
abbrev pub is_body : ℕ → Bool
is_body c = is_digit c || is_mark c

-- what holds of each of them holds of what is one
pub body_passes : (q : ℕ → Bool) → list_all q ascii_digits ≡ true → list_all q marks ≡ true → (c : ℕ) → is_body c ≡ true → q c ≡ true
body_passes q digits others c h = ⊎_elim (λ (e : is_digit c ≡ true). digit_passes q digits c e) (λ (e : is_mark c ≡ true). member_passes q marks c others e)
    (or_cases (is_digit c) (is_mark c) h)

pub stand_passes : (q : ℕ → Bool) → list_all q ascii_digits ≡ true → q 43 ≡ true → list_all q marks ≡ true → (c : ℕ) → may_stand c ≡ true → q c ≡ true
stand_passes q digits plus others c h = ⊎_elim
    (λ (e : is_key c ≡ true). ⊎_elim (λ (d : is_digit c ≡ true). digit_passes q digits c d) (λ (p : (c == 43) ≡ true). ap q (eqb-true c 43 p) ∙ plus)
    (or_cases (is_digit c) (c == 43) e))
    (λ (e : is_mark c ≡ true). member_passes q marks c others e)
    (or_cases (is_key c) (is_mark c) h)

pub body_stands : (c : ℕ) → is_body c ≡ true → may_stand c ≡ true
body_stands = body_passes may_stand refl refl

-- ---- no extension

folds_to_itself : (c : ℕ) → may_stand c ≡ true → folded c ≡ c
unfolding ucd_case
folds_to_itself c h = eqb-true (folded c) c (stand_passes (λ c. folded c == c) refl refl refl c h)

folded_text : (t : List ℕ) → list_all may_stand t ≡ true → map folded t ≡ t
folded_text [] all = refl
folded_text (c ∷ t) all =
    let parts = and_parts (may_stand c) (list_all may_stand t) all in
    ap (λ x. x ∷ map folded t) (folds_to_itself c parts.0) ∙ ap (λ s. c ∷ s) (folded_text t parts.1)

-- a word has a character that can't stand there
abbrev is_strange : List ℕ → Bool
is_strange w = not (list_all may_stand (map folded w))

not_alike : (t w : List ℕ) → list_all may_stand t ≡ true → is_strange w ≡ true → ¬ (is_alike t w ≡ true)
not_alike t w all strange h =
    let same : map folded t ≡ map folded w = (bytes_eq-Decides (map folded t) (map folded w)).0 h in
    true≢false (sym all ∙ ap (list_all may_stand) (sym (folded_text t all) ∙ same) ∙ not-true _ strange)

not_word : (ws : List (List ℕ)) (t : List ℕ) → list_all is_strange ws ≡ true → list_all may_stand t ≡ true → ¬ (is_word_of ws t ≡ true)
not_word [] t strange all h = true≢false (sym h)
not_word (w ∷ ws) t strange all h =
    let parts = and_parts (is_strange w) (list_all is_strange ws) strange in
    ⊎_elim (λ (e : is_alike t w ≡ true). not_alike t w all parts.0 e) (λ (e : is_word_of ws t ≡ true). not_word ws t parts.1 all e)
    (or_cases (is_alike t w) (is_word_of ws t) h)

strange_words : list_all is_strange words ≡ true
unfolding ucd_case
strange_words = refl

strange_signs : list_all is_strange signs ≡ true
unfolding ucd_case
strange_signs = refl

strange_pauses : list_all is_strange pauses ≡ true
unfolding ucd_case
strange_pauses = refl

strange_parameter : is_strange (codes ";ext=") ≡ true
unfolding ucd_case
strange_parameter = refl

no_commas : (t : List ℕ) → list_all may_stand t ≡ true → ¬ (are_commas t ≡ true)
no_commas [] all h = true≢false (sym h)
no_commas (c ∷ t) all h =
    let commas = (and_parts (not (length (c ∷ t) == 0)) (list_all (λ c. c == 44) (c ∷ t)) h).1 in
    let comma = (and_parts (c == 44) (list_all (λ c. c == 44) t) commas).0 in
    true≢false (sym (and_parts (may_stand c) _ all).0 ∙ ap may_stand (eqb-true c 44 comma))

-- the label of what stands there is none
no_label : (leads : ℕ → Bool) (labels : List ℕ → Bool) → ((l : List ℕ) → list_all may_stand l ≡ true → ¬ (labels l ≡ true)) →
    (t : List ℕ) → list_all may_stand t ≡ true → ¬ (IsLabelled leads labels t)
no_label leads labels none t all h =
    let whole = sym (list_all-append may_stand h.lead (h.label ++ (h.mark ++ h.gap))) ∙ ap (list_all may_stand) (sym h.whole) ∙ all in
    let back = sym (list_all-append may_stand h.label (h.mark ++ h.gap)) ∙ (and_parts _ _ whole).1 in
    none h.label (and_parts _ _ back).0 h.labels

-- so a number sign would have to follow
signed_only : (t : List ℕ) (n : ℕ) (signed : Bool) → list_all may_stand t ≡ true → Announces t n signed → signed ≡ true
signed_only t n signed all (Announcements.by_parameter alike few unsigned) = absurd (not_alike t (codes ";ext=") all strange_parameter alike)
signed_only t n signed all (Announcements.by_word h few) = absurd (no_label is_lead (is_word_of words) (λ l. not_word words l strange_words) t all h)
signed_only t n signed all (Announcements.by_sign h few) = absurd (no_label is_lead (is_word_of signs) (λ l. not_word signs l strange_signs) t all h)
signed_only t n signed all (Announcements.by_dashes only some few sign) = sign
signed_only t n signed all (Announcements.by_pause h few) = absurd (no_label is_blank (is_word_of pauses) (λ l. not_word pauses l strange_pauses) t all h)
signed_only t n signed all (Announcements.by_commas h few) = absurd (no_label is_blank are_commas no_commas t all h)

no_sign : (sign : List ℕ) → list_all may_stand sign ≡ true → list_all is_sign sign ≡ true → not (length sign == 0) ≡ false
no_sign [] all only = refl
no_sign (c ∷ sign) all only =
    let hash = (and_parts (is_sign c) (list_all is_sign sign) only).0 in
    absurd (true≢false (sym (and_parts (may_stand c) _ all).0 ∙ ap may_stand (eqb-true c 35 hash)))

all_drop : (p : ℕ → Bool) (k : ℕ) (xs : List ℕ) → list_all p xs ≡ true → list_all p (drop k xs) ≡ true
all_drop p zero xs all = all
all_drop p (suc k) [] all = refl
all_drop p (suc k) (x ∷ xs) all = all_drop p k xs (and_parts (p x) (list_all p xs) all).1

pub no_extension_shown : (t : List ℕ) → list_all may_stand t ≡ true → HasNoExtension t
no_extension_shown t all k d h =
    let whole = sym (list_all-append may_stand h.announcement (d ++ h.sign)) ∙ ap (list_all may_stand) (sym h.whole) ∙ all_drop may_stand k t all in
    let front = (and_parts _ _ whole).0 in
    let sign = (and_parts _ _ (sym (list_all-append may_stand d h.sign) ∙ (and_parts _ _ whole).1)).1 in
    true≢false (sym (signed_only h.announcement (length d) (not (length h.sign == 0)) front h.announced) ∙ no_sign h.sign sign h.signs.only)

-- ---- the digits

digit_nd : (c : ℕ) → is_digit c ≡ true → is_nd c ≡ true
unfolding ucd_category
digit_nd = digit_passes is_nd refl

mark_other : (c : ℕ) → is_mark c ≡ true → is_nd c ≡ false
unfolding ucd_category
mark_other c h = not-true (is_nd c) (member_passes (λ c. not (is_nd c)) marks c refl h)

mark_early : (c : ℕ) → is_mark c ≡ true → is_early c ≡ true
unfolding ucd_category
mark_early c h = member_passes is_early marks c refl h

mark_no_digit : (c : ℕ) → is_mark c ≡ true → is_digit c ≡ false
mark_no_digit c h = not-true (is_digit c) (member_passes (λ c. not (is_digit c)) marks c refl h)

-- digits and marks: a digit, or a mark that is none
body_cases : (c : ℕ) → is_body c ≡ true → (is_digit c ≡ false → is_mark c ≡ true)
body_cases c h none = ap (λ b. b || is_mark c) (sym none) ∙ h

-- the digits of a body that follow one another are walked along
pub walk_body : (n : ℕ) (t : List ℕ) → list_all is_body t ≡ true → n ≤ length (filter is_digit t) → number_walk n t ≡ true
walk_body n [] all some = eq-eqb n 0 (omega (arith, some))
walk_body n (c ∷ t) all some =
    let parts = and_parts (is_body c) (list_all is_body t) all in
    at (is_digit c) refl parts.0 (λ k some. walk_body k t parts.1 some) some
  where
    at : (b : Bool) → is_digit c ≡ b → is_body c ≡ true → ((k : ℕ) → k ≤ length (filter is_digit t) → number_walk k t ≡ true) →
        n ≤ length (cond b (c ∷ filter is_digit t) (filter is_digit t)) → number_walk n (c ∷ t) ≡ true
    at true e body more some = cond-true _ _ _ (digit_nd c e) ∙ more (n - 1) (omega (arith, some))
    at false e body more some =
        let mark = body_cases c body e in
        cond-false _ _ _ (mark_other c mark) ∙ and_from _ _ (or_left _ _ (mark_early c mark)) (more n some)

-- the values of a body are its digits
pub values_body : (t : List ℕ) → list_all is_body t ≡ true → filter_map value_of t ≡ filter is_digit t
values_body [] all = refl
values_body (c ∷ t) all =
    let parts = and_parts (is_body c) (list_all is_body t) all in
    at (is_digit c) refl parts.0 (values_body t parts.1)
  where
    at : (b : Bool) → is_digit c ≡ b → is_body c ≡ true → filter_map value_of t ≡ filter is_digit t →
        filter_map value_of (c ∷ t) ≡ cond b (c ∷ filter is_digit t) (filter is_digit t)
    at true e body more = rw (value_digit c e) (ap (λ s. c ∷ s) more)
    at false e body more = rw (value_none c (mark_other c (body_cases c body e))) more

none_counted : (p : ℕ → Bool) (xs : List ℕ) → list_any p xs ≡ false → count_by p xs ≡ 0
none_counted p [] none = refl
none_counted p (x ∷ xs) none =
    let parts = or_parts (p x) (list_any p xs) none in
    sum_by-cons (λ y. cond (p y) 1 0) x xs ∙ ap (λ b. cond b 1 0 + count_by p xs) parts.0 ∙ ap (λ n. 0 + n) (none_counted p xs parts.1)

no_letters : (t : List ℕ) → list_all may_stand t ≡ true → list_any is_alpha t ≡ false
no_letters t all = none_apart is_alpha may_stand (λ c h. not-true (is_alpha c) (stand_passes (λ c. not (is_alpha c)) refl refl refl c h)) t all

unlettered : (t : List ℕ) → list_all may_stand t ≡ true → digits_in t ≡ filter_map value_of t
unlettered t all = ap (λ n. filter_map (cond (nat_le 3 n) key_of value_of) t) (none_counted is_alpha t (no_letters t all))

pub digits_body : (t : List ℕ) → list_all is_body t ≡ true → digits_in t ≡ filter is_digit t
digits_body t all = unlettered t (all_wider is_body may_stand body_stands t all) ∙ values_body t all

pub digits_signed : (t : List ℕ) → list_all is_body t ≡ true → digits_in (43 ∷ t) ≡ filter is_digit t
digits_signed t all =
    unlettered (43 ∷ t) (and_from _ _ refl (all_wider is_body may_stand body_stands t all)) ∙ values_body t all

-- a body has no plus sign at its front
pub no_plus_before : (t : List ℕ) → list_all is_body t ≡ true → after_front is_plus t ≡ t
no_plus_before [] all = refl
no_plus_before (c ∷ t) all =
    let body = (and_parts (is_body c) (list_all is_body t) all).0 in
    cond-false _ _ _ (not-true (is_plus c) (body_passes (λ c. not (is_plus c)) refl refl c body))
