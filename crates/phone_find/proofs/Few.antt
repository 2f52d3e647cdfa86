-- How many digits stand before a place, in the front of what may stand in a number.
use Rattle.std.proofs.Common.{◌≡◌, ℕ, ◌+◌, ◌-◌, ◌<◌, ◌≤◌, Bool, true, false, cond, List, [], ◌∷◌, ◌++◌}
use Rattle.std.proofs.Common.{leb, length, refl, ap, sym, subst, ◌∙◌, arith, append_assoc, append-nil, true≢false, length-append}
use Rattle.std.proofs.lemmas.Bool.{and_from, and_parts, cond-true, cond-false, le-leb, leb-false, leb-true, lt-leb}
use Rattle.std.proofs.lemmas.List.Folds.{list_all-append}
use Rattle.std.proofs.lemmas.List.Sums.{sum_by-append}
use Rattle.std.specs.List.{count_by, list_all}
use Rattle.phone_chars.specs.Characters.{is_nd}
use Rattle.phone_chars.specs.Cuts.{front}
use Rattle.phone_find.specs.Sets.{is_inner}
use Rattle.phone_find.specs.Shapes.{has_few_digits, is_nil, most_digits}
use Rattle.phone_parts.proofs.Longest.{cuts_meet}

-- before the rest of a text stands what may stand in a number, with so many digits that so many are
-- left
pub record IsBehindFew (text rest : List ℕ) (left : ℕ) : Type 0 where
  pub before : List ℕ
  pub whole : text ≡ before ++ rest
  pub inner : list_all is_inner before ≡ true
  pub counted : count_by is_nd before + left ≡ most_digits

pub few_start : (text : List ℕ) → IsBehindFew text text most_digits
few_start text = record { before = []; whole = refl; inner = refl; counted = refl }

count-append : (xs ys : List ℕ) → count_by is_nd (xs ++ ys) ≡ count_by is_nd xs + count_by is_nd ys
count-append xs ys = sum_by-append (λ c. cond (is_nd c) 1 0) xs ys

count_one : (c : ℕ) (b : Bool) → is_nd c ≡ b → count_by is_nd (c ∷ []) ≡ cond b 1 0
count_one c true e = rw e
count_one c false e = rw e

moved : (text rest next : List ℕ) (c : ℕ) (left after : ℕ) (b : Bool) → rest ≡ c ∷ next → is_inner c ≡ true →
    is_nd c ≡ b → left ≡ cond b 1 0 + after → IsBehindFew text rest left → IsBehindFew text next after
moved text rest next c left after b read inner digit less h = record {
  before = h.before ++ c ∷ [];
  whole = h.whole ∙ ap (λ t. h.before ++ t) read ∙ sym (append_assoc h.before (c ∷ []) next);
  inner = list_all-append is_inner h.before (c ∷ []) ∙ and_from (list_all is_inner h.before) _ h.inner (and_from (is_inner c) true inner refl);
  counted =
      let more = count-append h.before (c ∷ []) in
      let one = count_one c b digit in
      omega (arith, more, one, less, h.counted);
}

-- one character further
pub few_plain : (text rest next : List ℕ) (c left : ℕ) → rest ≡ c ∷ next → is_inner c ≡ true → is_nd c ≡ false →
    IsBehindFew text rest left → IsBehindFew text next left
few_plain text rest next c left read inner digit h = moved text rest next c left left false read inner digit (omega arith) h

pub few_digit : (text rest next : List ℕ) (c left : ℕ) → rest ≡ c ∷ next → is_inner c ≡ true → is_nd c ≡ true → ¬ (left ≡ 0) →
    IsBehindFew text rest left → IsBehindFew text next (left - 1)
few_digit text rest next c left read inner digit some h =
    moved text rest next c left (left - 1) true read inner digit (omega (arith, some)) h

front_past : (before rest : List ℕ) → list_all is_inner before ≡ true → front is_inner (before ++ rest) ≡ before ++ front is_inner rest
front_past [] rest all = refl
front_past (c ∷ cs) rest all =
    let parts = and_parts (is_inner c) (list_all is_inner cs) all in
    cond-true _ _ _ parts.0 ∙ ap (λ t. c ∷ t) (front_past cs rest parts.1)

counted_front : (text rest : List ℕ) (left : ℕ) (h : IsBehindFew text rest left) →
    count_by is_nd (front is_inner text) ≡ count_by is_nd h.before + count_by is_nd (front is_inner rest)
counted_front text rest left h =
    ap (λ t. count_by is_nd (front is_inner t)) h.whole ∙ ap (count_by is_nd) (front_past h.before rest h.inner)
    ∙ count-append h.before (front is_inner rest)

-- where what may stand in a number ends, there are few digits
pub few_ends : (text rest : List ℕ) (left : ℕ) → front is_inner rest ≡ [] → IsBehindFew text rest left →
    true ≡ has_few_digits text
few_ends text rest left none h =
    let all = counted_front text rest left h in
    let no : count_by is_nd (front is_inner rest) ≡ 0 = ap (count_by is_nd) none in
    sym (le-leb (count_by is_nd (front is_inner text)) most_digits (omega (arith, all, no, h.counted)))

pub no_front : (c : ℕ) (cs : List ℕ) → is_inner c ≡ false → front is_inner (c ∷ cs) ≡ []
no_front c cs e = cond-false _ _ _ e

module _ (text rest next : List ℕ) (c : ℕ) (read : rest ≡ c ∷ next) (inner : is_inner c ≡ true) (digit : is_nd c ≡ true)
    (h : IsBehindFew text rest 0) where
  one_more : (more : List ℕ) → 1 ≤ count_by is_nd (front is_inner (c ∷ more))
  one_more more =
      let e : count_by is_nd (front is_inner (c ∷ more)) ≡ count_by is_nd (c ∷ []) + count_by is_nd (front is_inner more) =
      ap (count_by is_nd) (cond-true _ _ _ inner) ∙ count-append (c ∷ []) (front is_inner more) in
      let one = count_one c true digit in
      omega (arith, e, one)

  too_many : (t more : List ℕ) → t ≡ h.before ++ c ∷ more → has_few_digits t ≡ false
  too_many t more whole =
      let all = ap (λ s. count_by is_nd (front is_inner s)) whole ∙ ap (count_by is_nd) (front_past h.before (c ∷ more) h.inner)
      ∙ count-append h.before (front is_inner (c ∷ more)) in
      let one = one_more more in
      lt-leb (count_by is_nd (front is_inner t)) most_digits (omega (arith, all, one, h.counted))

  -- one digit more is too many
  pub few_no_more : is_nil rest ≡ has_few_digits text
  few_no_more = ap is_nil read ∙ sym (too_many text next (h.whole ∙ ap (λ t. h.before ++ t) read))

  -- and so none with few digits reaches behind it
  pub few_bound : (piece after : List ℕ) → text ≡ piece ++ after → has_few_digits piece ≡ true → length rest ≤ length after
  few_bound piece after whole few = by_length (leb (length rest) (length after)) refl
    where
      meets : length after < length rest → length rest ≤ length after
      meets late =
          let same : piece ++ after ≡ h.before ++ rest = sym whole ∙ h.whole in
          let long : length h.before ≤ length piece = omega (arith, ap length same, length-append piece after, length-append h.before rest, late) in
          let m = cuts_meet piece after h.before rest same long in
          nonempty m.0 m.1 m.2
        where
          nonempty : (m : List ℕ) → piece ≡ h.before ++ m → rest ≡ m ++ after → length rest ≤ length after
          nonempty [] e f = omega (arith, ap length f)
          nonempty (x ∷ xs) e f =
              let first : x ≡ c = (let both : x ∷ (xs ++ after) ≡ c ∷ next = sym f ∙ read in cc) in
              absurd (true≢false (sym few ∙ too_many piece xs (e ∙ ap (λ y. h.before ++ y ∷ xs) first)))

      by_length : (b : Bool) → leb (length rest) (length after) ≡ b → length rest ≤ length after
      by_length true e = leb-true (length rest) (length after) e
      by_length false e = meets (leb-false (length rest) (length after) e)
