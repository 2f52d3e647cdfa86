-- Thin texts: what their characters are, and what both readers make of them.
use Rattle.std.proofs.Common.{◌≡◌, inl, inr, ℕ, zero, suc, ◌+◌, ◌<◌, ◌≤◌, nat_le, ◌==◌, eqb-true, eq-eqb, leb-true, Bool, true, false, not, ◌&&◌, ◌||◌, List, [], ◌∷◌, ◌++◌, drop, None, Ok, refl, ap, sym, ◌∙◌, true≢false, arith, append-nil}
use Rattle.std.proofs.lemmas.Bool.{and_parts, and_from, not-true, or_parts}
use Rattle.std.specs.List.{list_any, list_all}
use Rattle.ucd_case.proofs.Computing.{ucd_case}
use Rattle.ucd_category.proofs.Computing.{ucd_category}
use Rattle.phone_chars.specs.Characters.{is_digit, is_one_of, is_plus}
use Rattle.phone_chars.specs.Cuts.{after_front}
use Rattle.phone_parts.specs.Cores.{IsCore, begins_second_number, is_start, is_last}
use Rattle.phone_parts.specs.Naturals
use Rattle.phone_parts.specs.Naturals.{IsNatural}
use Rattle.phone_parts.specs.Tel
use Rattle.phone_parts.specs.Tel.{IsTel, is_phonedigit}
use Rattle.phone_parts.specs.Texts.{begins, ends}
use Rattle.phone_parts.proofs.Endings.{member_passes}
use Rattle.phone_parts.proofs.Ends.{all_wider, begins_wider, ends_wider}
use Rattle.phone_parts.proofs.Openings.{is_opening, no_suffix}
use Rattle.phonenumber.specs.Thin.{is_thin, is_thin_char}

-- n numbers from one on
abbrev pub from_on : ℕ → ℕ → List ℕ
from_on a zero = []
from_on a (suc n) = a ∷ from_on (suc a) n

in_range : (n a c : ℕ) → a ≤ c → c < a + n → is_one_of (from_on a n) c ≡ true
in_range zero a c low high = absurd (omega arith)
in_range (suc n) a c low high = at (a == c) refl (λ apart. in_range n (suc a) c (omega arith) (omega arith))
  where
    at : (b : Bool) → (a == c) ≡ b → (¬ (a ≡ c) → is_one_of (from_on (suc a) n) c ≡ true) → (b || is_one_of (from_on (suc a) n) c) ≡ true
    at true e more = refl
    at false e more = more (λ same. true≢false (sym (eq-eqb a c same) ∙ e))

-- what holds of the ten digits holds of each digit
pub digit_passes : (q : ℕ → Bool) → list_all q (from_on 48 10) ≡ true → (c : ℕ) → is_digit c ≡ true → q c ≡ true
digit_passes q all c e =
    let bounds = and_parts (nat_le 48 c) (nat_le c 57) e in
    member_passes q (from_on 48 10) c all (in_range 10 48 c (leb-true 48 c bounds.0) (let high : c ≤ 57 = leb-true c 57 bounds.1 in omega arith))

-- what holds of the ten digits, the hyphen and the space holds of each thin character
pub thin_passes : (q : ℕ → Bool) → list_all q (from_on 48 10) ≡ true → q 45 ≡ true → q 32 ≡ true → (c : ℕ) → is_thin_char c ≡ true → q c ≡ true
thin_passes q digits hyphen space c e = by_digit (is_digit c) refl
  where
    by_space : (b : Bool) → (c == 32) ≡ b → b ≡ true → q c ≡ true
    by_space true f g = ap q (eqb-true c 32 f) ∙ space
    by_space false f g = absurd (true≢false (sym g))

    by_hyphen : (b : Bool) → (c == 45) ≡ b → (b || (c == 32)) ≡ true → q c ≡ true
    by_hyphen true f g = ap q (eqb-true c 45 f) ∙ hyphen
    by_hyphen false f g = by_space (c == 32) refl g

    by_digit : (b : Bool) → is_digit c ≡ b → q c ≡ true
    by_digit true f = digit_passes q digits c f
    by_digit false f = by_hyphen (c == 45) refl (ap (λ b. (b || (c == 45)) || (c == 32)) (sym f) ∙ e)

-- where no character of a set is in another, none of a text is
pub none_passes : (p : ℕ → Bool) (t : List ℕ) → list_all (λ c. not (p c)) t ≡ true → list_any p t ≡ false
none_passes p [] h = refl
none_passes p (c ∷ cs) h =
    let both = and_parts (not (p c)) (list_all (λ x. not (p x)) cs) h in
    rw (not-true (p c) both.0, none_passes p cs both.1)

-- a thin text has no character that an extension must have
thin_opens : (c : ℕ) → is_thin_char c ≡ true → not (is_opening c) ≡ true
unfolding ucd_case
thin_opens = thin_passes (λ c. not (is_opening c)) refl refl refl

-- nor a slash
slash : ℕ → Bool
slash c = is_one_of (47 ∷ 92 ∷ []) c

thin_slash : (c : ℕ) → is_thin_char c ≡ true → not (slash c) ≡ true
unfolding slash
thin_slash = thin_passes (λ c. not (slash c)) refl refl refl

digit_starts : (c : ℕ) → is_digit c ≡ true → is_start c ≡ true
unfolding ucd_category
digit_starts = digit_passes is_start refl

digit_lasts : (c : ℕ) → is_digit c ≡ true → is_last c ≡ true
unfolding ucd_category
digit_lasts = digit_passes is_last refl

pub digit_unsigned : (c : ℕ) → is_digit c ≡ true → is_plus c ≡ false
digit_unsigned c e = not-true (is_plus c) (digit_passes (λ x. not (is_plus x)) refl c e)

no_slash_at : (k : ℕ) (t : List ℕ) → list_any slash t ≡ false → begins_second_number (drop k t) ≡ false
unfolding slash
no_slash_at k [] h = nothing k
  where
    nothing : (n : ℕ) → begins_second_number (drop n []) ≡ false
    nothing zero = refl
    nothing (suc n) = refl
no_slash_at zero (c ∷ cs) h = at (slash c) refl
  where
    at : (b : Bool) → slash c ≡ b → begins_second_number (c ∷ cs) ≡ false
    at true e = absurd (true≢false (ap (λ b. b || list_any slash cs) (sym e) ∙ h))
    at false e = ap (λ b. b && begins (λ d. d == 120) (after_front (λ d. d == 32) cs)) e
no_slash_at (suc k) (c ∷ cs) h = no_slash_at k cs (or_parts (slash c) (list_any slash cs) h).1

-- a thin text that is not empty begins and ends with a digit, and all its characters are thin
pub record IsThinText (t : List ℕ) : Type 0 where
  pub first : begins is_digit t ≡ true
  pub last : ends is_digit t ≡ true
  pub all : list_all is_thin_char t ≡ true

pub thin_text : (c : ℕ) (cs : List ℕ) → is_thin (c ∷ cs) ≡ true → IsThinText (c ∷ cs)
thin_text c cs h =
    let outer = and_parts (is_digit c) (ends is_digit (c ∷ cs) && list_all is_thin_char (c ∷ cs)) h in
    let inner = and_parts (ends is_digit (c ∷ cs)) (list_all is_thin_char (c ∷ cs)) outer.1 in
    record { first = outer.0; last = inner.0; all = inner.1 }

some_text : (t : List ℕ) → begins is_digit t ≡ true → ¬ (t ≡ [])
some_text [] h e = true≢false (sym h)
some_text (c ∷ cs) h e = cc

-- it is its own core
thin_core : (t : List ℕ) → IsThinText t → IsCore t t
thin_core t h = record {
  before = [];
  from = t;
  kept = t;
  whole = refl;
  no_start = refl;
  starts = begins_wider is_digit is_start digit_starts t h.first;
  trimmed = record { trailing = []; whole = sym (append-nil t); no_last = refl; trimmed = inr (ends_wider is_digit is_last digit_lasts t h.last) };
  first = record {
    after = [];
    whole = sym (append-nil t);
    ended = inl refl;
    earliest = λ k less. no_slash_at k t (none_passes slash t (all_wider is_thin_char (λ c. not (slash c)) thin_slash t h.all));
  };
  not_empty = some_text t h.first;
}

-- and its own national part, as free text
pub thin_natural : (t : List ℕ) → IsThinText t → IsNatural t (Ok (record { national = t; prefix = None; extension = None }))
thin_natural t h =
    Naturals.plain t (thin_core t h) (no_suffix t (none_passes is_opening t (all_wider is_thin_char (λ c. not (is_opening c)) thin_opens t h.all)))

-- a thin character that is no space may stand in the national part of a `tel:` text
national_or_space : ℕ → Bool
national_or_space c = is_phonedigit c || (c == 32)

thin_national : (c : ℕ) → is_thin_char c ≡ true → national_or_space c ≡ true
unfolding national_or_space
thin_national = thin_passes national_or_space refl refl refl

all_national : (t : List ℕ) → list_all is_thin_char t ≡ true → list_any (λ c. c == 32) t ≡ false → list_all is_phonedigit t ≡ true
unfolding national_or_space
all_national [] h none = refl
all_national (c ∷ cs) h none = at (c == 32) refl none (and_parts (is_thin_char c) (list_all is_thin_char cs) h) (all_national cs)
  where
    or_false : (b : Bool) → (b || false) ≡ true → b ≡ true
    or_false true e = refl
    or_false false e = absurd (true≢false (sym e))

    at : (b : Bool) → (c == 32) ≡ b → (b || list_any (λ d. d == 32) cs) ≡ false → (is_thin_char c ≡ true) × (list_all is_thin_char cs ≡ true) →
        (list_all is_thin_char cs ≡ true → list_any (λ d. d == 32) cs ≡ false → list_all is_phonedigit cs ≡ true) → list_all is_phonedigit (c ∷ cs) ≡ true
    at true e f both more = absurd (true≢false f)
    at false e f both more =
        and_from (is_phonedigit c) (list_all is_phonedigit cs) (or_false (is_phonedigit c) (ap (λ b. is_phonedigit c || b) (sym e) ∙ thin_national c both.0)) (more both.1 f)

digit_national : (c : ℕ) → is_digit c ≡ true → is_phonedigit c ≡ true
digit_national = digit_passes is_phonedigit refl

no_plus_sign : (t : List ℕ) → begins is_digit t ≡ true → begins (λ c. c == 43) t ≡ false
no_plus_sign [] h = refl
no_plus_sign (c ∷ cs) h = not-true (c == 43) (digit_passes (λ x. not (x == 43)) refl c h)

-- without a space it has the `tel:` form, and is its own national part again
pub thin_tel : (t : List ℕ) → IsThinText t → list_any (λ c. c == 32) t ≡ false → IsTel t (record { national = t; prefix = None; extension = None })
thin_tel t h none = record {
  scheme = [];
  signed_run = [];
  run = None;
  tail = [];
  parameters = [];
  no_space = none;
  whole = sym (append-nil t);
  is_scheme = inl refl;
  is_run = Tel.unsigned (ap (begins (λ c. c == 43)) (append-nil t) ∙ no_plus_sign t h.first);
  some_national = begins_wider is_digit is_phonedigit digit_national t h.first;
  all_national = all_national t h.all none;
  longest = refl;
  is_tail = inl refl;
  has_parameters = Tel.no_more [] (λ p rest g. absurd (nothing p rest g.whole));
  prefix = refl;
  extension = refl;
}
  where
    nothing : (p : Tel.Parameter) (rest : List ℕ) → [] ≡ 59 ∷ (p.name ++ 61 ∷ (p.value ++ rest)) → ⊥
    nothing p rest e = cc
