-- A text of digits and marks, with a plus sign before them or without, is written as its digits are.
use Rattle.std.proofs.Common.{◌≡◌, inl, inr, ⊎_elim, ℕ, ◌≤◌, ◌==◌, Bool, true, false, not, List, [], ◌∷◌, ◌++◌, length, filter, Some, None, Ok, append-nil, refl, ap, sym, subst, ◌∙◌, true≢false, arith}
use Rattle.std.proofs.lemmas.Bool.{and_from, and_parts, cond-false, false_from_ne_true, not-true, or_parts, or_right}
use Rattle.std.proofs.lemmas.List.Elements.{filter-append}
use Rattle.std.proofs.lemmas.List.Folds.{list_all-append}
use Rattle.std.specs.List.{list_all, list_any}
use Rattle.ucd_category.proofs.Computing.{ucd_category}
use Rattle.phone_chars.specs.Characters.{is_digit, is_nd, is_plus}
use Rattle.phone_chars.specs.Cuts.{after_front}
use Rattle.phone_parts.specs.Cores.{IsCore, is_last, is_start}
use Rattle.phone_parts.specs.Texts.{begins, ends}
use Rattle.phone_parts.proofs.Cores.{core_of, from_first, undivided}
use Rattle.phone_parts.proofs.Ends.{all_wider, ends-append}
use Rattle.phone_parts.proofs.PrintedCores.{cut_after_last, signed_core, unslashed}
use Rattle.phone_parts.proofs.PrintedTexts.{digit_passes, is_slash, none_apart}
use Rattle.phone_library_text.specs.NumberTexts
use Rattle.phone_library_text.specs.NumberTexts.{HasNumberText}
use Rattle.phone_library_text.specs.Viable
use Rattle.phone_library_text.specs.Viable.{HasNumber, IsViable}
use Rattle.phone_library_text.specs.Written
use Rattle.phone_library_text.specs.Written.{IsWritten, most_characters}
use Rattle.phone_library_text.specs.Letters.{digits_in}
use Rattle.phone_library_text.proofs.NumbersIn.{no_context, no_subaddress}
use Rattle.phone_library_text.proofs.Signed.{number_walk, signed_of_walk}
use Rattle.phone_library_text.proofs.WrittenOnes.{written_as}
use Rattle.phone_typed.proofs.MarkedTexts.{body_passes, body_stands, digits_body, digits_signed, is_body, may_stand, no_extension_shown, no_plus_before, stand_passes, walk_body}

-- ---- from the core on

module _ (t n d : List ℕ) (whole : list_all may_stand t ≡ true) (core : IsCore t n) (all : list_all may_stand n ≡ true) (walk : number_walk 3 (after_front is_plus n) ≡ true)
    (digits : digits_in n ≡ d) (le : length t ≤ most_characters) where
  no_semicolon : (t : List ℕ) → list_all may_stand t ≡ true → list_any (λ c. c == 59) t ≡ false
  no_semicolon t all = none_apart (λ c. c == 59) may_stand (λ c h. not-true (c == 59) (stand_passes (λ c. not (c == 59)) refl refl refl c h)) t all

  text : HasNumberText t (Some n)
  text = subst (λ x. HasNumberText t (Some x)) (no_subaddress n (no_semicolon n all)) (NumberTexts.free n (no_context t (no_semicolon t whole)) core)

  viable : IsViable n
  viable = inr (inl (signed_of_walk n walk))

  number : HasNumber n n None
  number = Viable.plain (no_extension_shown n all)

  pub written : (plus : Bool) → plus ≡ begins is_plus n → IsWritten t (Ok (record { has_plus = plus; digits = d; extension = None }))
  written plus e = Written.something n (Ok (record { has_plus = plus; digits = d; extension = None })) le text (written_as n n None plus d None viable number e (sym digits) refl)

-- ---- sets

digit_nd : (c : ℕ) → is_digit c ≡ true → is_nd c ≡ true
unfolding ucd_category
digit_nd = digit_passes is_nd refl

digit_last : (c : ℕ) → is_digit c ≡ true → is_last c ≡ true
unfolding ucd_category
digit_last = digit_passes is_last refl

digit_start : (c : ℕ) → is_digit c ≡ true → is_start c ≡ true
digit_start c h = or_right (is_plus c) (is_nd c) (digit_nd c h)

plus_starts : (rest : List ℕ) → begins is_start (43 ∷ rest) ≡ true
plus_starts rest = refl

-- where a set has all digits, a text without its members has no digit
no_digits : (p : ℕ → Bool) → ((c : ℕ) → is_digit c ≡ true → p c ≡ true) → (t : List ℕ) → list_any p t ≡ false → filter is_digit t ≡ []
no_digits p has [] none = refl
no_digits p has (c ∷ t) none =
    let parts = or_parts (p c) (list_any p t) none in
    let other : is_digit c ≡ false = false_from_ne_true (is_digit c) (λ e. true≢false (sym (has c e) ∙ parts.0)) in
    cond-false _ _ _ other ∙ no_digits p has t parts.1

-- and a text with a digit has a member
some_member : (p : ℕ → Bool) → ((c : ℕ) → is_digit c ≡ true → p c ≡ true) → (t : List ℕ) → 1 ≤ length (filter is_digit t) → list_any p t ≡ true
some_member p has t some = at (list_any p t) refl
  where
    at : (b : Bool) → list_any p t ≡ b → b ≡ true
    at true e = refl
    at false e = absurd (let none = ap length (no_digits p has t e) in omega (arith, none, some))

unmarked : (t : List ℕ) → list_all may_stand t ≡ true → list_any is_slash t ≡ false
unmarked t all = none_apart is_slash may_stand (λ c h. not-true (is_slash c) (stand_passes (λ c. not (is_slash c)) refl refl refl c h)) t all

all_stand : (t : List ℕ) → list_all is_body t ≡ true → list_all may_stand t ≡ true
all_stand t all = all_wider is_body may_stand body_stands t all

-- ---- after a plus sign
pub signed_written : (t d : List ℕ) → list_all is_body t ≡ true → filter is_digit t ≡ d → 3 ≤ length d → length (43 ∷ t) ≤ most_characters →
    IsWritten (43 ∷ t) (Ok (record { has_plus = true; digits = d; extension = None }))
signed_written t d all digits some le =
    let long : 1 ≤ length (filter is_digit t) = omega (arith, ap length digits, some) in
    let cut = cut_after_last is_last t (some_member is_last digit_last t long) in
    let parts = and_parts (list_all is_body cut.kept) (list_all is_body cut.rest) (sym (list_all-append is_body cut.kept cut.rest) ∙ ap (list_all is_body) (sym cut.whole) ∙ all) in
    let same : filter is_digit cut.kept ≡ d =
    sym (append-nil (filter is_digit cut.kept)) ∙ ap (λ r. filter is_digit cut.kept ++ r) (sym (no_digits is_last digit_last cut.rest cut.none))
    ∙ sym (filter-append is_digit cut.kept cut.rest) ∙ ap (filter is_digit) (sym cut.whole) ∙ digits in
    let not_nil : ¬ (cut.kept ≡ []) = λ e. true≢false (sym cut.last ∙ ap (ends is_last) e) in
    let stands = all_stand cut.kept parts.0 in
    let core : IsCore (43 ∷ t) (43 ∷ cut.kept) =
    subst (λ x. IsCore (43 ∷ x) (43 ∷ cut.kept)) (sym cut.whole)
    (signed_core cut.kept cut.rest cut.none (ends-append is_last (43 ∷ []) cut.kept not_nil ∙ cut.last) (unslashed (43 ∷ cut.kept) (unmarked (43 ∷ cut.kept) (and_from _ _ refl stands)))) in
    written (43 ∷ t) (43 ∷ cut.kept) d (and_from _ _ refl (all_stand t all)) core (and_from _ _ refl stands)
    (ap (number_walk 3) (no_plus_before cut.kept parts.0) ∙ walk_body 3 cut.kept parts.0 (omega (arith, ap length same, some)))
    (digits_signed cut.kept parts.0 ∙ same) le true refl

-- ---- without one
pub unsigned_written : (t d : List ℕ) → list_all is_body t ≡ true → filter is_digit t ≡ d → 3 ≤ length d → length t ≤ most_characters →
    IsWritten t (Ok (record { has_plus = false; digits = d; extension = None }))
unsigned_written t d all digits some le =
    let begin = from_first is_start t in
    let from = after_front (λ c. not (is_start c)) t in
    let parts = and_parts (list_all is_body begin.before) (list_all is_body from)
    (sym (list_all-append is_body begin.before from) ∙ ap (list_all is_body) (sym begin.whole) ∙ all) in
    let from_digits : filter is_digit from ≡ d =
    ap (λ f. f ++ filter is_digit from) (sym (no_digits is_start digit_start begin.before begin.none))
    ∙ sym (filter-append is_digit begin.before from) ∙ ap (filter is_digit) (sym begin.whole) ∙ digits in
    let long : 1 ≤ length (filter is_digit from) = omega (arith, ap length from_digits, some) in
    let cut = cut_after_last is_last from (some_member is_last digit_last from long) in
    let kept = and_parts (list_all is_body cut.kept) (list_all is_body cut.rest) (sym (list_all-append is_body cut.kept cut.rest) ∙ ap (list_all is_body) (sym cut.whole) ∙ parts.1) in
    let same : filter is_digit cut.kept ≡ d =
    sym (append-nil (filter is_digit cut.kept)) ∙ ap (λ r. filter is_digit cut.kept ++ r) (sym (no_digits is_last digit_last cut.rest cut.none))
    ∙ sym (filter-append is_digit cut.kept cut.rest) ∙ ap (filter is_digit) (sym cut.whole) ∙ from_digits in
    let not_nil : ¬ (cut.kept ≡ []) = λ e. true≢false (sym cut.last ∙ ap (ends is_last) e) in
    let starts : begins is_start from ≡ true = ⊎_elim
    (λ (e : from ≡ []). absurd (let none = ap (λ f. length (filter is_digit f)) e in omega (arith, none, long))) (λ (e : begins is_start from ≡ true). e) begin.first in
    let stands = all_stand cut.kept kept.0 in
    let core : IsCore t cut.kept =
    subst (λ x. IsCore x cut.kept) (sym (begin.whole ∙ ap (λ f. begin.before ++ f) cut.whole))
    (core_of begin.before cut.kept cut.rest cut.kept begin.none (ap (begins is_start) (sym cut.whole) ∙ starts) cut.last cut.none
    (undivided cut.kept (λ k less. unslashed cut.kept (unmarked cut.kept stands) k)) not_nil) in
    written t cut.kept d (all_stand t all) core stands
    (ap (number_walk 3) (no_plus_before cut.kept kept.0) ∙ walk_body 3 cut.kept kept.0 (omega (arith, ap length same, some)))
    (digits_body cut.kept kept.0 ∙ same) le false (sym (no_sign cut.kept kept.0))
  where
    no_sign : (t : List ℕ) → list_all is_body t ≡ true → begins is_plus t ≡ false
    no_sign [] all = refl
    no_sign (c ∷ t) all = not-true (is_plus c) (body_passes (λ c. not (is_plus c)) refl refl c (and_parts (is_body c) (list_all is_body t) all).0)
