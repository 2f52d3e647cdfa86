-- What the readers find in a printed international text.
use Rattle.std.proofs.Common.{◌≡◌, ℕ, ◌≤◌, ◌==◌, Bool, true, false, not, ◌&&◌, ◌||◌, List, [], ◌∷◌, ◌++◌, length, codes, eqb-true, Option, Some, None, Ok, refl, ap, sym, subst, ◌∙◌, true≢false, arith, append-nil, append_assoc}
use Rattle.std.proofs.lemmas.Bool.{and_parts, and_from, or_parts, or_right, not-true, false_from_ne_true, not_from_false}
use Rattle.std.proofs.lemmas.List.Folds.{list_any-append, list_all-append}
use Rattle.std.specs.List.{list_any, list_all}
use Rattle.std.specs.Option.{option_map_or}
use Rattle.ucd_case.proofs.Computing.{ucd_case}
use Rattle.ucd_category.proofs.Computing.{ucd_category}
use Rattle.phone_chars.specs.Characters.{is_digit, is_nd, is_one_of, is_punctuation, punctuation}
use Rattle.phone_parts.specs.Cores.{IsCore, is_last}
use Rattle.phone_parts.specs.Naturals
use Rattle.phone_parts.specs.Naturals.{IsNatural}
use Rattle.phone_parts.specs.Parts.{Parts}
use Rattle.phone_parts.specs.Readers
use Rattle.phone_parts.specs.Readers.{HasParts}
use Rattle.phone_parts.specs.Suffixes.{IsEnding, IsIndicated, HasLongestSuffix, is_lead, is_sign}
use Rattle.phone_parts.specs.declared.suffix.Form.TheVariants.{Indicated}
use Rattle.phone_parts.specs.Texts.{ends}
use Rattle.phone_parts.proofs.Endings.{AreApart, member_passes}
use Rattle.phone_parts.proofs.Ends.{all_wider, ends-append, ends-append_run}
use Rattle.phone_parts.proofs.Longest.{all_parts}
use Rattle.phone_parts.proofs.Openings.{is_opening, no_suffix}
use Rattle.phone_parts.proofs.PrintedCores.{IsCutAfterLast, IsUnmarked, all_of_none, cut_after_last, signed_core, unmarked_before, unmarked_nil, unslashed}
use Rattle.phone_parts.proofs.PrintedSuffixes.{longest_behind}
use Rattle.phone_parts.proofs.PrintedTexts.{ascii_digits, digit_passes, digit_apart, none_apart, none_append, is_slash}
use Rattle.phone_parts.proofs.TelRefusals.{spaced}

-- ---- the characters of a printed number

-- punctuation that may announce an extension
abbrev pub announcing : List ℕ
announcing = 120 ∷ 126 ∷ 0xFF5E ∷ []

-- a digit, or other punctuation
abbrev pub is_printed : ℕ → Bool
is_printed c = (is_digit c || is_punctuation c) && not (is_one_of announcing c)

printed_passes : (p : ℕ → Bool) → list_all p ascii_digits ≡ true → list_all (λ c. is_one_of announcing c || p c) punctuation ≡ true → (c : ℕ) →
    is_printed c ≡ true → p c ≡ true
printed_passes p digits others c e = at (is_digit c) refl parts.0
  where
    parts : ((is_digit c || is_punctuation c) ≡ true) × (not (is_one_of announcing c) ≡ true)
    parts = and_parts (is_digit c || is_punctuation c) (not (is_one_of announcing c)) e

    at : (b : Bool) → is_digit c ≡ b → (b || is_punctuation c) ≡ true → p c ≡ true
    at true f g = digit_passes p digits c f
    at false f g =
        ap (λ b. b || p c) (sym (not-true (is_one_of announcing c) parts.1)) ∙ member_passes (λ x. is_one_of announcing x || p x) punctuation c others g

-- a printed text that has no digit is punctuation
printed_rest : (xs : List ℕ) → list_all is_printed xs ≡ true → list_any is_digit xs ≡ false → list_all is_punctuation xs ≡ true
printed_rest [] all none = refl
printed_rest (x ∷ xs) all none =
    let parts = and_parts (is_printed x) (list_all is_printed xs) all in
    let digits = or_parts (is_digit x) (list_any is_digit xs) none in
    let one = and_parts (is_digit x || is_punctuation x) (not (is_one_of announcing x)) parts.0 in
    and_from (is_punctuation x) (list_all is_punctuation xs) (ap (λ b. b || is_punctuation x) (sym digits.0) ∙ one.0) (printed_rest xs parts.1 digits.1)

-- the two premises on a printed number, as one
pub all_printed : (q : List ℕ) → list_all (λ c. is_digit c || is_punctuation c) q ≡ true → list_any (is_one_of announcing) q ≡ false → list_all is_printed q ≡ true
all_printed [] all none = refl
all_printed (c ∷ cs) all none =
    let parts = and_parts (is_digit c || is_punctuation c) (list_all (λ x. is_digit x || is_punctuation x) cs) all in
    let others = or_parts (is_one_of announcing c) (list_any (is_one_of announcing) cs) none in
    and_from _ _ (and_from _ _ parts.0 (not_from_false _ others.0)) (all_printed cs parts.1 others.1)

-- a plus sign too
abbrev pub is_signed : ℕ → Bool
is_signed c = (c == 43) || is_printed c

digit_printed : (c : ℕ) → is_digit c ≡ true → is_signed c ≡ true
digit_printed = digit_passes is_signed refl

-- plus sign, code, space and number
abbrev pub signed : List ℕ → List ℕ → List ℕ
signed cd q = 43 ∷ (cd ++ 32 ∷ q)

pub all_signed : (cd q : List ℕ) → list_all is_digit cd ≡ true → list_all is_printed q ≡ true → list_all is_signed (signed cd q) ≡ true
all_signed cd q digits printed =
    list_all-append is_signed cd (32 ∷ q)
    ∙ and_from _ _ (all_wider is_digit is_signed digit_printed cd digits) (all_wider is_printed is_signed (λ c e. or_right (c == 43) (is_printed c) e) q printed)

signed_passes : (p : ℕ → Bool) → p 43 ≡ true → list_all p ascii_digits ≡ true → list_all (λ c. is_one_of announcing c || p c) punctuation ≡ true → (c : ℕ) →
    is_signed c ≡ true → p c ≡ true
signed_passes p plus digits others c e = at (c == 43) refl e
  where
    at : (b : Bool) → (c == 43) ≡ b → (b || is_printed c) ≡ true → p c ≡ true
    at true f g = ap p (eqb-true c 43 f) ∙ plus
    at false f g = printed_passes p digits others c g

signed_apart : (p : ℕ → Bool) → not (p 43) ≡ true → list_all (λ c. not (p c)) ascii_digits ≡ true →
    list_all (λ c. is_one_of announcing c || not (p c)) punctuation ≡ true → AreApart p is_signed
signed_apart p plus digits others c e = not-true (p c) (signed_passes (λ x. not (p x)) plus digits others c e)

-- none of them begins an indicator, is an x or a number sign
pub opening_signed : AreApart is_opening is_signed
unfolding ucd_case
opening_signed = signed_apart is_opening refl refl refl

pub x_signed : AreApart (λ c. c == 120) is_signed
x_signed = signed_apart (λ c. c == 120) refl refl refl

pub sign_signed : AreApart is_sign is_signed
sign_signed = signed_apart is_sign refl refl refl

pub digit_last : (c : ℕ) → is_digit c ≡ true → is_last c ≡ true
unfolding ucd_category
digit_last = digit_passes is_last refl

pub digit_nd : (c : ℕ) → is_digit c ≡ true → is_nd c ≡ true
unfolding ucd_category
digit_nd = digit_passes is_nd refl

pub digit_no_lead : (c : ℕ) → is_digit c ≡ true → not (is_lead c) ≡ true
digit_no_lead = digit_passes (λ c. not (is_lead c)) refl

any_wider : (p q : ℕ → Bool) → ((c : ℕ) → p c ≡ true → q c ≡ true) → (xs : List ℕ) → list_any p xs ≡ true → list_any q xs ≡ true
any_wider p q wider [] some = absurd (true≢false (sym some))
any_wider p q wider (x ∷ xs) some = at (p x) refl some (any_wider p q wider xs)
  where
    at : (b : Bool) → p x ≡ b → (b || list_any p xs) ≡ true → (list_any p xs ≡ true → list_any q xs ≡ true) → list_any q (x ∷ xs) ≡ true
    at true e f more = ap (λ b. b || list_any q xs) (wider x e)
    at false e f more = or_right (q x) (list_any q xs) (more f)

-- ---- the cut at the end of the number

-- a printed number, cut after its last character of a set that has the digits: punctuation is cut off
record IsPrintedCut (p : ℕ → Bool) (q : List ℕ) : Type 0 where
  pub cut : IsCutAfterLast p q
  pub kept : list_all is_printed cut.kept ≡ true
  pub rest : list_all is_punctuation cut.rest ≡ true

printed_cut : (p : ℕ → Bool) → ((c : ℕ) → is_digit c ≡ true → p c ≡ true) → (q : List ℕ) → list_all is_printed q ≡ true → list_any is_digit q ≡ true → IsPrintedCut p q
printed_cut p wider q printed some =
    let cut = cut_after_last p q (any_wider is_digit p wider q some) in
    let parts = all_parts is_printed cut.kept cut.rest (ap (list_all is_printed) (sym cut.whole) ∙ printed) in
    record {
      cut = cut;
      kept = parts.0;
      rest = printed_rest cut.rest parts.1
          (false_from_ne_true (list_any is_digit cut.rest) (λ e. true≢false (sym (any_wider is_digit p wider cut.rest e) ∙ cut.none)));
    }

-- a text ends as its number does
pub some_text : (p : ℕ → Bool) (xs : List ℕ) → ends p xs ≡ true → ¬ (xs ≡ [])
some_text p [] e f = true≢false (sym e)
some_text p (x ∷ xs) e f = cc

pub ends_signed : (p : ℕ → Bool) (cd q : List ℕ) → ends p q ≡ true → ends p (signed cd q) ≡ true
ends_signed p cd q last = ends-append p (43 ∷ cd) (32 ∷ q) (λ e. cc) ∙ ends-append p (32 ∷ []) q (some_text p q last) ∙ last

-- ---- the reading

pub signed-append : (cd q r : List ℕ) → signed cd (q ++ r) ≡ signed cd q ++ r
signed-append cd q r = ap (λ t. 43 ∷ t) (sym (append_assoc cd (32 ∷ q) r))

-- what a text is read as, up to the punctuation at the end of the number
record IsRead (cd q behind : List ℕ) (e : Option (List ℕ)) : Type 0 where
  pub kept : List ℕ
  pub rest : List ℕ
  pub whole : q ≡ kept ++ rest
  pub only : list_all is_punctuation rest ≡ true
  pub natural : IsNatural (signed cd q ++ behind) (Ok (record { national = signed cd kept; prefix = None; extension = e }))

-- the premises on code and number
record IsPrinted (cd q : List ℕ) : Type 0 where
  pub code : list_all is_digit cd ≡ true
  pub printed : list_all is_printed q ≡ true
  pub digit : list_any is_digit q ≡ true

-- without an extension
read_alone : (cd q : List ℕ) → IsPrinted cd q → IsRead cd q [] None
read_alone cd q h =
    let c = printed_cut is_last digit_last q h.printed h.digit in
    let n = signed cd c.cut.kept in
    let all : list_all is_signed n ≡ true = all_signed cd c.cut.kept h.code c.kept in
    let whole : signed cd q ++ [] ≡ n ++ c.cut.rest = append-nil (signed cd q) ∙ ap (signed cd) c.cut.whole ∙ signed-append cd c.cut.kept c.cut.rest in
    let unmarked : IsUnmarked n = subst IsUnmarked (append-nil n) (unmarked_before n [] (none_apart (λ x. x == 120) is_signed x_signed n all) refl unmarked_nil) in
    let core : IsCore (n ++ c.cut.rest) n =
    signed_core (cd ++ 32 ∷ c.cut.kept) c.cut.rest c.cut.none (ends_signed is_last cd c.cut.kept c.cut.last) unmarked in
    record {
      kept = c.cut.kept;
      rest = c.cut.rest;
      whole = c.cut.whole;
      only = c.rest;
      natural = subst (λ t. IsNatural t (Ok (record { national = n; prefix = None; extension = None }))) (sym whole)
          (Naturals.plain n core (no_suffix n (none_apart is_opening is_signed opening_signed n all)));
    }

-- ` ext` and an ending, behind a lead
announced_suffix : (leads ending d : List ℕ) → list_all is_lead leads ≡ true → IsEnding ending d → IsIndicated (leads ++ 32 ∷ 101 ∷ 120 ∷ 116 ∷ ending) d
unfolding ucd_case
announced_suffix leads ending d all h = record {
  lead = leads ++ 32 ∷ [];
  rest = 101 ∷ 120 ∷ 116 ∷ ending;
  whole = sym (append_assoc leads (32 ∷ []) (101 ∷ 120 ∷ 116 ∷ ending));
  leads = list_all-append is_lead leads (32 ∷ []) ∙ and_from _ _ all refl;
  announced = record { word = codes "ext"; ending = ending; whole = refl; announces = refl; ends = h };
}

-- with ` ext`, an ending, and what is cut off behind it
read_announced : (cd q ending trailing d : List ℕ) → IsPrinted cd q → IsEnding ending d → list_any is_sign ending ≡ false → list_any is_slash ending ≡ false →
    ends is_last (32 ∷ 101 ∷ 120 ∷ 116 ∷ ending) ≡ true → list_any is_last trailing ≡ false →
    IsRead cd q ((32 ∷ 101 ∷ 120 ∷ 116 ∷ ending) ++ trailing) (Some d)
read_announced cd q ending trailing d h is_ending no_sign no_slash last none =
    let c = printed_cut (λ x. not (is_lead x)) digit_no_lead q h.printed h.digit in
    let s = signed cd q in
    let n = signed cd c.cut.kept in
    let tail : List ℕ = 32 ∷ 101 ∷ 120 ∷ 116 ∷ ending in
    let all : list_all is_signed s ≡ true = all_signed cd q h.code h.printed in
    let unmarked : IsUnmarked (s ++ tail) = unmarked_before s tail (none_apart (λ x. x == 120) is_signed x_signed s all) refl (unslashed tail no_slash) in
    let core : IsCore ((s ++ tail) ++ trailing) (s ++ tail) =
    signed_core ((cd ++ 32 ∷ q) ++ tail) trailing none (ends-append is_last s tail (λ e. cc) ∙ last) unmarked in
    let whole : s ++ tail ≡ n ++ (c.cut.rest ++ tail) =
    ap (λ t. t ++ tail) (ap (signed cd) c.cut.whole ∙ signed-append cd c.cut.kept c.cut.rest) ∙ append_assoc n c.cut.rest tail in
    let longest : HasLongestSuffix (s ++ tail) n d =
    longest_behind (s ++ tail) n (c.cut.rest ++ tail) Indicated d whole
    (none_apart is_opening is_signed opening_signed n (all_signed cd c.cut.kept h.code c.kept)) (ends_signed (λ x. not (is_lead x)) cd c.cut.kept c.cut.last)
    (none_append is_sign s tail (none_apart is_sign is_signed sign_signed s all) no_sign)
    (announced_suffix c.cut.rest ending d (all_of_none is_lead c.cut.rest c.cut.none) is_ending) in
    record {
      kept = c.cut.kept;
      rest = c.cut.rest;
      whole = c.cut.whole;
      only = c.rest;
      natural = subst (λ t. IsNatural t (Ok (record { national = n; prefix = None; extension = Some d }))) (append_assoc s tail trailing)
          (Naturals.extended (s ++ tail) n d core longest);
    }

-- an ending without digits, and one with digits
pub no_ending : IsEnding [] []
no_ending = record {
  mark = [];
  gap = [];
  sign = [];
  whole = refl;
  marks = record { only = refl; few = omega arith };
  gaps = refl;
  digits = record { only = refl; few = omega arith };
  signs = record { only = refl; few = omega arith };
}

digits_ending : (d : List ℕ) → list_all is_digit d ≡ true → length d ≤ 7 → IsEnding (46 ∷ 32 ∷ d) d
digits_ending d digits few = record {
  mark = 46 ∷ [];
  gap = 32 ∷ [];
  sign = [];
  whole = ap (λ t. 46 ∷ 32 ∷ t) (sym (append-nil d));
  marks = record { only = refl; few = omega arith };
  gaps = refl;
  digits = record { only = all_wider is_digit is_nd digit_nd d digits; few = few };
  signs = record { only = refl; few = omega arith };
}

ext_last : ends is_last (codes " ext") ≡ true
unfolding ucd_category
ext_last = refl

stop_not_last : list_any is_last (codes ". ") ≡ false
unfolding ucd_category
stop_not_last = refl

-- the announcement of an extension
abbrev pub announced : Option (List ℕ) → List ℕ
announced e = option_map_or (λ d. codes " ext. " ++ d) e []

read_digits : (cd q : List ℕ) (x : ℕ) (xs : List ℕ) → IsPrinted cd q → list_all is_digit (x ∷ xs) ≡ true → length (x ∷ xs) ≤ 7 →
    IsRead cd q (codes " ext. " ++ x ∷ xs) (Some (x ∷ xs))
read_digits cd q x xs h digits few =
    let parts = and_parts (is_digit x) (list_all is_digit xs) digits in
    let last : ends is_last (codes " ext. " ++ x ∷ xs) ≡ true =
    ends-append is_last (codes " ext. ") (x ∷ xs) (λ e. cc) ∙ ends-append_run is_last (x ∷ []) xs (digit_last x parts.0) (all_wider is_digit is_last digit_last xs parts.1) in
    subst (λ t. IsRead cd q t (Some (x ∷ xs))) (append-nil (codes " ext. " ++ x ∷ xs))
    (read_announced cd q (46 ∷ 32 ∷ x ∷ xs) [] (x ∷ xs) h (digits_ending (x ∷ xs) digits few)
    (none_apart is_sign is_digit (digit_apart is_sign refl) (x ∷ xs) digits) (none_apart is_slash is_digit (digit_apart is_slash refl) (x ∷ xs) digits) last refl)

read : (cd q : List ℕ) (e : Option (List ℕ)) → IsPrinted cd q → option_map_or (list_all is_digit) e true ≡ true → option_map_or length e 0 ≤ 7 →
    IsRead cd q (announced e) e
read cd q None h digits few = read_alone cd q h
read cd q (Some []) h digits few = read_announced cd q [] (codes ". ") [] h no_ending refl refl ext_last stop_not_last
read cd q (Some (x ∷ xs)) h digits few = read_digits cd q x xs h digits few

-- it has a space, so it has no `tel:` form
pub has_space : (cd q : List ℕ) → list_any (λ c. c == 32) (signed cd q) ≡ true
has_space cd q = list_any-append (λ c. c == 32) cd (32 ∷ q) ∙ or_right (list_any (λ c. c == 32) cd) _ refl

pub international_parts : (cd q : List ℕ) (e : Option (List ℕ)) → list_all is_digit cd ≡ true → list_all (λ c. is_digit c || is_punctuation c) q ≡ true →
    list_any (is_one_of announcing) q ≡ false → list_any is_digit q ≡ true → option_map_or (list_all is_digit) e true ≡ true → option_map_or length e 0 ≤ 7 →
    (kept : List ℕ) × (rest : List ℕ) × (q ≡ kept ++ rest) × (list_all is_punctuation rest ≡ true)
    × HasParts (43 ∷ (cd ++ 32 ∷ (q ++ announced e))) (Some (record { national = 43 ∷ (cd ++ 32 ∷ kept); prefix = None; extension = e }))
international_parts cd q e code printed none some digits few =
    let r = read cd q e (record { code = code; printed = all_printed q printed none; digit = some }) digits few in
    let parts : Parts = record { national = signed cd r.kept; prefix = None; extension = e } in (
      r.kept,
      r.rest,
      r.whole,
      r.only,
      Readers.as_natural parts (spaced (signed cd (q ++ announced e)) (has_space cd (q ++ announced e)))
          (subst (λ t. IsNatural t (Ok parts)) (sym (signed-append cd q (announced e))) r.natural),
    )
