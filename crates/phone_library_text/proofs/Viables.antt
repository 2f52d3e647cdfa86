-- A text that is signed digits before some extension is so before its longest one.
use Rattle.std.proofs.Common.{◌≡◌, ◌↔◌, inl, inr, ⊎_elim, ℕ, ◌≤◌, ◌<◌, Bool, true, false, List, [], ◌∷◌, ◌++◌, length, drop, append_assoc, append-nil, refl, ap, sym, subst, ◌∙◌, true≢false, arith}
use Rattle.std.proofs.lemmas.Bool.{and_from, and_parts, cases_Bool, cases_lt, or_parts}
use Rattle.std.proofs.lemmas.List.{append_cancel_left}
use Rattle.std.proofs.lemmas.List.Folds.{list_any-append}
use Rattle.std.proofs.Math.Seq.{drop-append_seam}
use Rattle.std.specs.List.{list_all, list_any}
use Rattle.phone_chars.specs.Characters.{is_nd}
use Rattle.phone_parts.specs.Longest.{IsWithoutLongest}
use Rattle.phone_parts.specs.Suffixes.{is_sign}
use Rattle.phone_parts.specs.Texts.{ends}
use Rattle.phone_parts.proofs.Longest.{cuts_meet}
use Rattle.phone_library_text.specs.Extensions.{HasLongestExtension, HasNoExtension, IsExtension}
use Rattle.phone_library_text.specs.Scans.{IsSignless, is_two_digits}
use Rattle.phone_library_text.specs.Viable.{IsExtended, IsSignedDigits, IsTwoDigits}
use Rattle.phone_library_text.proofs.Extended.{same_head}
use Rattle.phone_library_text.proofs.NoDigits.{no_digit}
use Rattle.phone_library_text.proofs.Signed.{signed_front}

-- each text has a longest end of characters of a set
record HasRun (p : ℕ → Bool) (t : List ℕ) : Type 0 where
  left : List ℕ
  run : IsWithoutLongest (λ w. list_all p w ≡ true) t left

longest_run : (p : ℕ → Bool) (t : List ℕ) → HasRun p t
longest_run p [] = record { left = []; run = record { end = []; whole = refl; kind = refl; longest = λ before other e k. omega arith } }
longest_run p (c ∷ cs) = elim (cases_Bool (list_all p (c ∷ cs))) [
  | inl all ↦ record { left = []; run = record { end = c ∷ cs; whole = refl; kind = all; longest = λ before other e k. omega arith } }
  | inr apart ↦ more apart (longest_run p cs)
]
  where
    more : list_all p (c ∷ cs) ≡ false → HasRun p cs → HasRun p (c ∷ cs)
    more apart r = record {
      left = c ∷ r.left;
      run = record { end = r.run.end; whole = ap (λ t. c ∷ t) r.run.whole; kind = r.run.kind; longest = at };
    }
      where
        at : (before other : List ℕ) → c ∷ cs ≡ before ++ other → list_all p other ≡ true → length (c ∷ r.left) ≤ length before
        at [] other e k = absurd (true≢false (sym k ∙ ap (list_all p) (sym e) ∙ apart))
        at (x ∷ before) other e k =
            let tails : cs ≡ before ++ other = cc in omega (arith, r.run.longest before other tails k)

-- and either ends in a number sign or doesn't
record HasSign (t : List ℕ) : Type 0 where
  front : List ℕ
  signed : Bool
  cut : IsSignless t front signed

sign_at_end : (t : List ℕ) → ends is_sign t ≡ true → (front : List ℕ) × (c : ℕ) × (t ≡ front ++ c ∷ []) × (is_sign c ≡ true)
sign_at_end [] h = absurd (true≢false (sym h))
sign_at_end (c ∷ []) h = ([], c, refl, h)
sign_at_end (c ∷ d ∷ cs) h = let r = sign_at_end (d ∷ cs) h in (c ∷ r.0, r.1, ap (λ t. c ∷ t) r.2, r.3)

pub signless_of : (t front : List ℕ) (c : ℕ) → t ≡ front ++ c ∷ [] → is_sign c ≡ true → IsSignless t front true
signless_of t front c whole sign = record {
  sign = c ∷ [];
  whole = whole;
  signs = record { only = and_from (is_sign c) true sign refl; few = omega arith };
  told = refl;
  none_left = λ e. absurd (true≢false e);
}

pub unsigned_of : (t : List ℕ) → ends is_sign t ≡ false → IsSignless t t false
unsigned_of t none = record { sign = []; whole = sym (append-nil t); signs = record { only = refl; few = omega arith }; told = refl; none_left = λ e. none }

has_sign : (t : List ℕ) → HasSign t
has_sign t = elim (cases_Bool (ends is_sign t)) [
  | inl e ↦ let r = sign_at_end t e in record { front = r.0; signed = true; cut = signless_of t r.0 r.1 r.2 r.3 }
  | inr e ↦ record { front = t; signed = false; cut = unsigned_of t e }
]

-- what follows a front is an end
end_at : (P : List ℕ → Type 0) (t a b : List ℕ) → t ≡ a ++ b → P b → P (drop (length a) t)
end_at P t a b e h = subst P (sym (ap (drop (length a)) e ∙ drop-append_seam a b)) h

pub not_extended : (t : List ℕ) → HasNoExtension t → ¬ (IsExtended t)
not_extended t none x = none (length x.number) x.digits (end_at (λ w. IsExtension w x.digits) t x.number x.extension x.whole x.is_extension)

pub extended_of : (t n d : List ℕ) → HasLongestExtension t n d → IsSignedDigits n → IsExtended t
extended_of t n d l s =
    record { number = n; extension = l.extension; digits = d; whole = l.whole; is_number = s; is_extension = l.is_extension }

-- the longest extension begins no later than another, and no digit stands between
pub signed_before_longest : (t n d : List ℕ) → HasLongestExtension t n d → IsExtended t → IsSignedDigits n
signed_before_longest t n d l x =
    let s = has_sign t in
    let r = longest_run is_nd s.front in
    let le : length n ≤ length x.number = ⊎_elim
    (λ (less : length x.number < length n).
    absurd (l.longest (length x.number) x.digits less (end_at (λ w. IsExtension w x.digits) t x.number x.extension x.whole x.is_extension)))
    (λ (more : length n ≤ length x.number). more)
    (cases_lt (length x.number) (length n)) in
    let m = cuts_meet x.number x.extension n l.extension (sym x.whole ∙ l.whole) le in
    let long = same_head t s.front r.left s.signed s.cut r.run n l.extension d l.whole l.is_extension in
    let short = same_head t s.front r.left s.signed s.cut r.run x.number x.extension x.digits x.whole x.is_extension in
    let parts : l.is_extension.announcement ≡ m.0 ++ x.is_extension.announcement =
    append_cancel_left n _ _ (long ∙ sym short ∙ ap (λ r. r ++ x.is_extension.announcement) m.1 ∙ append_assoc n m.0 _) in
    let none : list_any is_nd (m.0 ++ x.is_extension.announcement) ≡ false =
    ap (list_any is_nd) (sym parts) ∙ no_digit l.is_extension.announcement (length d) _ l.is_extension.announced in
    let front_none : list_any is_nd m.0 ≡ false =
    (or_parts (list_any is_nd m.0) (list_any is_nd x.is_extension.announcement) (sym (list_any-append is_nd m.0 x.is_extension.announcement) ∙ none)).0 in
    signed_front n m.0 front_none (subst IsSignedDigits m.1 x.is_number)

pub extended_iff : (t n d : List ℕ) → HasLongestExtension t n d → (answer : Bool) → ((answer ≡ true) ↔ IsSignedDigits n) → (answer ≡ true) ↔ IsExtended t
extended_iff t n d l answer iff = (λ h. extended_of t n d l (iff.0 h), λ x. iff.1 (signed_before_longest t n d l x))

-- two digits
pub two_digits_of : (t : List ℕ) → IsTwoDigits t → is_two_digits t ≡ true
two_digits_of [] h = absurd (omega (arith, h.two))
two_digits_of (c ∷ []) h = absurd (omega (arith, h.two))
two_digits_of (c ∷ d ∷ []) h =
    let first = and_parts (is_nd c) (list_all is_nd (d ∷ [])) h.digits in
    and_from _ _ first.0 (and_parts (is_nd d) true first.1).0
two_digits_of (c ∷ d ∷ e ∷ cs) h = absurd (omega (arith, h.two))

pub is_two_digits_of : (t : List ℕ) → is_two_digits t ≡ true → IsTwoDigits t
is_two_digits_of [] h = absurd (true≢false (sym h))
is_two_digits_of (c ∷ []) h = absurd (true≢false (sym h))
is_two_digits_of (c ∷ d ∷ []) h =
    let parts = and_parts (is_nd c) (is_nd d) h in
    record { two = refl; digits = and_from (is_nd c) (list_all is_nd (d ∷ [])) parts.0 (and_from (is_nd d) true parts.1 refl) }
is_two_digits_of (c ∷ d ∷ e ∷ cs) h = absurd (true≢false (sym h))
