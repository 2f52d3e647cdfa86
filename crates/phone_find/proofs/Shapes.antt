-- What a printed international text, or one of a plus sign and digits, is made of.
use Rattle.std.proofs.Common.{◌≡◌, ℕ, ◌≤◌, ◌==◌, Bool, true, false, not, ◌&&◌, ◌||◌, List, inl, inr}
use Rattle.std.proofs.Common.{[], ◌∷◌, ◌++◌, codes, length, length-append, append_assoc, append-nil, reverse, refl, ap, sym, ◌∙◌}
use Rattle.std.proofs.Common.{arith}
use Rattle.std.proofs.lemmas.Bool.{and_from, and_parts, cond-false, le-leb, not-true, not_from_false, or_cases, or_left, or_right}
use Rattle.std.proofs.lemmas.List.Folds.{list_all-append}
use Rattle.std.proofs.lemmas.List.Sums.{count_by-le-length}
use Rattle.std.specs.List.{count_by, list_all}
use Rattle.std.specs.Str.{chars}
use Rattle.ucd_case.proofs.Computing.{ucd_case}
use Rattle.ucd_category.proofs.Computing.{ucd_category}
use Rattle.phone_chars.specs.Characters.{is_digit, is_nd, is_one_of, is_plus, is_punctuation, is_separator}
use Rattle.phone_chars.proofs.Runs.{front-append-after_front}
use Rattle.phone_chars.specs.Cuts.{after_front, front}
use Rattle.phone_find.specs.Standing.{is_end, is_plain, is_shaped}
use Rattle.phone_find.specs.Rules.{followers, labels, stamps}
use Rattle.phone_find.specs.Sets.{is_gap, is_inner, is_last, stands_for, stands_plainly}
use Rattle.phone_find.specs.Shapes.{are_extension_digits, has_date, has_few_digits, is_bracketed, is_extension}
use Rattle.phone_find.specs.Shapes.{is_made, is_nil, is_sign_or_end}
use Rattle.phone_find.specs.Walks.{fits_some}
use Rattle.phone_find.specs.Alone.{IsNothingElse, IsShaped}
use Rattle.phone_parts.proofs.Cores.{ends-push}
use Rattle.phone_parts.proofs.Ends.{all_wider}
use Rattle.phone_parts.proofs.PrintedInternational.{announcing, is_printed}
use Rattle.phone_parts.proofs.PrintedTexts.{digit_passes}
use Rattle.phone_parts.proofs.Runs.{after_front_of_run}
use Rattle.phone_parts.specs.Texts.{begins, ends}
use Rattle.phone_find.proofs.Places.{ends-append, last_of}

-- a digit of ASCII is one of the digits of all scripts
digit_nd : (c : ℕ) → is_digit c ≡ true → is_nd c ≡ true
unfolding ucd_category
digit_nd = digit_passes is_nd refl

digit_inner : (c : ℕ) → is_digit c ≡ true → is_inner c ≡ true
digit_inner c e =
    or_left ((is_nd c || is_plus c) || is_separator c) (c == 88) (or_left (is_nd c || is_plus c) (is_separator c)
    (or_left (is_nd c) (is_plus c) (digit_nd c e)))

-- what a laid-out number is made of may stand in a number
printed_inner : (c : ℕ) → is_printed c ≡ true → is_inner c ≡ true
printed_inner c e =
    let parts = and_parts (is_digit c || is_punctuation c) (not (is_one_of announcing c)) e in
    elim (or_cases (is_digit c) (is_punctuation c) parts.0) [
      | inl h ↦ digit_inner c h
      | inr h ↦ or_left ((is_nd c || is_plus c) || is_separator c) (c == 88) (or_right (is_nd c || is_plus c) (is_separator c)
          (or_left (is_punctuation c) (c == 0xFF0E) h))
    ]

-- a text that ends in a digit ends as a number may
last_digit : (t : List ℕ) → ends is_digit t ≡ true → ends is_last t ≡ true
last_digit t e =
    let last = last_of is_digit t e in
    ap (ends is_last) last.2 ∙ ends-push is_last last.1 last.0 ∙ or_left (is_nd last.0) (last.0 == 35) (digit_nd last.0 last.3)

all_end : (t : List ℕ) → list_all is_digit t ≡ true → 1 ≤ length t → ends is_digit t ≡ true
all_end [] all some = absurd (omega (arith, some))
all_end (c ∷ []) all some = (and_parts (is_digit c) true all).0
all_end (c ∷ d ∷ cs) all some = all_end (d ∷ cs) (and_parts (is_digit c) (list_all is_digit (d ∷ cs)) all).1 (omega arith)

-- of what may stand in a number alone
made_inner : (t : List ℕ) → list_all is_inner t ≡ true → is_made t ≡ true
made_inner t all =
    let rest : after_front is_inner t ≡ [] = ap (after_front is_inner) (sym (append-nil t)) ∙ after_front_of_run is_inner t [] all refl in
    ap (λ r. is_nil r || is_extension r) rest

no_gap : (c : ℕ) → is_digit c ≡ true → is_gap c ≡ false
no_gap c e = not-true (is_gap c) (digit_passes (λ x. not (is_gap x)) refl c e)

gapless : (t : List ℕ) → list_all is_digit t ≡ true → after_front is_gap t ≡ t
gapless [] all = refl
gapless (c ∷ cs) all = cond-false _ _ _ (no_gap c (and_parts (is_digit c) (list_all is_digit cs) all).0)

begins_nd : (t : List ℕ) → list_all is_digit t ≡ true → 1 ≤ length t → begins is_nd t ≡ true
begins_nd [] all some = absurd (omega (arith, some))
begins_nd (c ∷ cs) all some = digit_nd c (and_parts (is_digit c) (list_all is_digit cs) all).0

-- digits behind a full stop and a space
stopped_digits : (e : List ℕ) → list_all is_digit e ≡ true → 1 ≤ length e → are_extension_digits (codes ". " ++ e) ≡ true
stopped_digits e digits some =
    let same : after_front is_gap (codes ". " ++ e) ≡ e = gapless e digits in
    let rest : after_front is_nd e ≡ [] = ap (after_front is_nd) (sym (append-nil e)) ∙
    after_front_of_run is_nd e [] (all_wider is_digit is_nd digit_nd e digits) refl in
    ap (λ t. begins is_nd t && is_sign_or_end (after_front is_nd t)) same ∙
    and_from (begins is_nd e) (is_sign_or_end (after_front is_nd e)) (begins_nd e digits some) (ap is_sign_or_end rest)

-- an extension announced by the word that is printed where no other is preferred
is_announced : (e : List ℕ) → list_all is_digit e ≡ true → 1 ≤ length e → is_extension (codes "ext. " ++ e) ≡ true
unfolding labels stands_for stands_plainly ucd_case
is_announced e digits some = or_left (are_extension_digits (codes ". " ++ e)) _ (stopped_digits e digits some)

-- a plus sign and digits
pub made_signed : (cs : List ℕ) → list_all is_digit cs ≡ true → is_made (43 ∷ cs) ≡ true
made_signed cs all = made_inner (43 ∷ cs) (and_from (is_inner 43) (list_all is_inner cs) plus_inner (all_wider is_digit is_inner digit_inner cs all))
  where
    plus_inner : is_inner 43 ≡ true
    plus_inner = or_left ((is_nd 43 || is_plus 43) || is_separator 43) false (or_left (is_nd 43 || is_plus 43) (is_separator 43)
        (or_right (is_nd 43) (is_plus 43) refl))

pub ends_signed : (cs : List ℕ) → list_all is_digit cs ≡ true → 1 ≤ length cs → ends is_last (43 ∷ cs) ≡ true
ends_signed cs all some = last_digit (43 ∷ cs) (ends-append is_digit (43 ∷ []) cs (all_end cs all some))

module _ (cd q : List ℕ) (code : list_all is_digit cd ≡ true) (printed : list_all is_printed q ≡ true) (last : ends is_digit q ≡ true) where
  abbrev number : List ℕ
  number = 43 ∷ (cd ++ 32 ∷ q)

  all_inner : list_all is_inner number ≡ true
  all_inner = and_from (is_inner 43) (list_all is_inner (cd ++ 32 ∷ q)) (sign 43 refl) (list_all-append is_inner cd (32 ∷ q)
      ∙ and_from _ _ (all_wider is_digit is_inner digit_inner cd code)
      (and_from (is_inner 32) (list_all is_inner q) (printed_inner 32 refl) (all_wider is_printed is_inner printed_inner q printed)))
    where
      sign : (c : ℕ) → is_plus c ≡ true → is_inner c ≡ true
      sign c e = or_left ((is_nd c || is_plus c) || is_separator c) (c == 88) (or_left (is_nd c || is_plus c) (is_separator c)
          (or_right (is_nd c) (is_plus c) e))

  pub made_number : is_made number ≡ true
  made_number = made_inner number all_inner

  number_digit : ends is_digit number ≡ true
  number_digit = ends-append is_digit (43 ∷ cd) (32 ∷ q) (ends-append is_digit (32 ∷ []) q last)

  pub ends_number : ends is_last number ≡ true
  ends_number = last_digit number number_digit

  module _ (e : List ℕ) (digits : list_all is_digit e ≡ true) (some : 1 ≤ length e) where
    abbrev extended : List ℕ
    extended = 43 ∷ (cd ++ 32 ∷ (q ++ (codes " ext. " ++ e)))

    abbrev spaced : List ℕ
    spaced = number ++ 32 ∷ []

    parted : extended ≡ spaced ++ (codes "ext. " ++ e)
    parted = sym (append_assoc (43 ∷ cd) (32 ∷ q) (codes " ext. " ++ e)) ∙ sym (append_assoc number (32 ∷ []) (codes "ext. " ++ e))

    inner : list_all is_inner spaced ≡ true
    inner = list_all-append is_inner number (32 ∷ []) ∙ and_from _ _ all_inner (and_from (is_inner 32) true (printed_inner 32 refl) refl)

    no_inner : is_inner 101 ≡ false
    unfolding ucd_category
    no_inner = refl

    pub made_extended : is_made extended ≡ true
    made_extended =
        let rest : after_front is_inner (spaced ++ (codes "ext. " ++ e)) ≡ codes "ext. " ++ e = after_front_of_run is_inner spaced (codes "ext. " ++ e) inner no_inner in
        ap is_made parted ∙ ap (λ r. is_nil r || is_extension r) rest ∙ is_announced e digits some

    pub ends_extended : ends is_last extended ≡ true
    ends_extended =
        ap (ends is_last) parted ∙ last_digit (spaced ++ (codes "ext. " ++ e)) (ends-append is_digit spaced (codes "ext. " ++ e)
        (ends-append is_digit (codes "ext. ") e (all_end e digits some)))

-- a short text has few digits
pub few_of : (t : List ℕ) → length t ≤ 34 → has_few_digits t ≡ true
few_of t short =
    let run = front is_inner t in
    let whole = ap length (front-append-after_front is_inner t) in
    le-leb (count_by is_nd run) 34
    (omega (arith, count_by-le-length is_nd run, whole, length-append run (after_front is_inner t), short))

-- a text that is made as a number is, ends as one does, and is taken for nothing else may be one
pub shaped_from : (text after : List ℕ) → length text ≤ 250 → has_few_digits (chars text) ≡ true → is_made (chars text) ≡ true →
    ends is_last (chars text) ≡ true → IsNothingElse (chars text) (32 ∷ chars after) → IsShaped text after
shaped_from text after short few made last free =
    let cs = chars text in
    let next = 32 ∷ chars after in
    let end = and_from (ends is_last cs && not (fits_some followers (reverse cs) next)) (not (fits_some stamps (reverse cs) next))
    (and_from (ends is_last cs) (not (fits_some followers (reverse cs) next)) last (not_from_false _ free.unfollowed))
    (not_from_false _ free.unstamped) in
    let plain = and_from (is_made cs) (is_bracketed cs) made free.bracketed in
    let shape = and_from (has_few_digits cs && is_plain cs) (not (has_date cs)) (and_from (has_few_digits cs) (is_plain cs) few plain)
    (not_from_false _ free.dateless) in
    record { short = short; piece = and_from (is_end cs next) (is_shaped cs) end shape }
