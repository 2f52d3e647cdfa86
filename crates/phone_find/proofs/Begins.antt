-- What a candidate begins and ends in, and that it is none where none may begin.
use Rattle.std.proofs.Common.{◌≡◌, ℕ, ◌+◌, ◌-◌, ◌<◌, Bool, true, false, not, ◌&&◌, ◌||◌, List, []}
use Rattle.std.proofs.Common.{◌∷◌, ◌++◌, drop, take, slice_range, reverse, IsCharBoundary, IsUtf8, ap, ap₂, refl}
use Rattle.std.proofs.Common.{inl, inr, sym, subst, ◌∙◌, arith, true≢false}
use Rattle.std.proofs.lemmas.Bool.{and_parts, or_cases, or_left, or_right}
use Rattle.std.proofs.lemmas.List.{drop-drop, take-append-drop}
use Rattle.std.proofs.lemmas.Str.{IsUtf8-between, chars-append}
use Rattle.std.specs.Str.{chars}
use Rattle.phone_chars.specs.Characters.{is_plus}
use Rattle.phone_parts.specs.Texts.{begins, ends}
use Rattle.phone_find.specs.Standing.{is_begin, is_candidate, is_end, is_inside, is_piece, is_plain, is_shaped}
use Rattle.phone_find.specs.Rules.{followers, links, stamps}
use Rattle.phone_find.specs.Sets.{is_first, is_last}
use Rattle.phone_find.specs.Shapes.{has_date, has_few_digits}
use Rattle.phone_find.specs.Walks.{fits_some}
use Rattle.phone_find.specs.Alone.{is_opening}

-- the characters from a place on are those of a piece and those behind it
pub read_piece : (text : List ℕ) (start end : ℕ) → IsUtf8 text → start < end → IsCharBoundary text start → IsCharBoundary text end →
    chars (drop start text) ≡ chars (slice_range text start end) ++ chars (drop end text)
read_piece text start end u some from to =
    let rest = drop start text in
    let n = end - start in
    let piece = IsUtf8-between text start end u (omega (arith, some)) from to in
    let at : start + n ≡ end = omega (arith, some) in
    let behind : drop n rest ≡ drop end text = drop-drop n start text ∙ ap (λ i. drop i text) at in
    ap chars (sym (take-append-drop n rest)) ∙ chars-append (take n rest) (drop n rest) piece ∙ ap (λ t. chars (take n rest) ++ chars t) behind

begins_plus : (t : List ℕ) → begins is_plus t ≡ true → begins is_opening t ≡ true
begins_plus [] e = absurd (true≢false (sym e))
begins_plus (c ∷ cs) e = or_left (is_plus c) (is_first c) e

begins_first : (t : List ℕ) → begins is_first t ≡ true → begins is_opening t ≡ true
begins_first [] e = absurd (true≢false (sym e))
begins_first (c ∷ cs) e = or_right (is_plus c) (is_first c) e

-- a number begins at an opening
pub begin_opening : (before from : List ℕ) → is_begin before from ≡ true → begins is_opening from ≡ true
begin_opening before from e =
    let other = fits_some links (reverse before) from || not (is_inside (reverse before) from) in
    elim (or_cases (begins is_plus from) (begins is_first from && other) e) [
      | inl h ↦ begins_plus from h
      | inr h ↦ begins_first from (and_parts (begins is_first from) other h).0
    ]

-- a candidate may end where it does
pub candidate_end : (before piece after : List ℕ) → is_candidate before piece after ≡ true → is_end piece after ≡ true
candidate_end before piece after e =
    let all = and_parts (is_begin before (piece ++ after)) (is_piece piece after) e in
    (and_parts (is_end piece after) (is_shaped piece) all.1).0

-- a candidate ends in a digit or a number sign
pub candidate_last : (before piece after : List ℕ) → is_candidate before piece after ≡ true → ends is_last piece ≡ true
candidate_last before piece after e =
    let end = candidate_end before piece after e in
    let free = not (fits_some followers (reverse piece) after) in
    let both = (and_parts (ends is_last piece && free) (not (fits_some stamps (reverse piece) after)) end).0 in
    (and_parts (ends is_last piece) free both).0

-- a candidate has few digits, and is plain
pub candidate_shape : (before piece after : List ℕ) → is_candidate before piece after ≡ true →
    (has_few_digits piece ≡ true) × (is_plain piece ≡ true)
candidate_shape before piece after e =
    let all = and_parts (is_begin before (piece ++ after)) (is_piece piece after) e in
    let shape = (and_parts (is_end piece after) (is_shaped piece) all.1).1 in
    and_parts (has_few_digits piece) (is_plain piece) (and_parts (has_few_digits piece && is_plain piece) (not (has_date piece)) shape).0

-- a number may begin where a candidate does
pub candidate_begins : (text : List ℕ) (start end : ℕ) → IsUtf8 text → start < end → IsCharBoundary text start → IsCharBoundary text end →
    is_candidate (chars (take start text)) (chars (slice_range text start end)) (chars (drop end text)) ≡ true →
    is_begin (chars (take start text)) (chars (drop start text)) ≡ true
candidate_begins text start end u some from to e =
    let before = chars (take start text) in
    let piece = chars (slice_range text start end) in
    let after = chars (drop end text) in
    ap (is_begin before) (read_piece text start end u some from to) ∙ (and_parts (is_begin before (piece ++ after)) (is_piece piece after) e).0

-- where none may begin stands no candidate
pub none_begins : (text : List ℕ) (start : ℕ) (b : Bool) → IsUtf8 text → b ≡ is_begin (chars (take start text)) (chars (drop start text)) →
    b ≡ false → (from to : ℕ) → from < to → IsCharBoundary text from → IsCharBoundary text to →
    is_candidate (chars (take from text)) (chars (slice_range text from to)) (chars (drop to text)) ≡ true → ¬ (from ≡ start)
none_begins text start b u told refused from to some left right candidate e =
    let may = subst (λ s. is_begin (chars (take s text)) (chars (drop s text)) ≡ true) e (candidate_begins text from to u some left right candidate) in
    true≢false (sym may ∙ sym told ∙ refused)

-- what a piece that may end where it does is asked still
pub by_shape : (before piece after : List ℕ) (from : List ℕ) (b : Bool) → is_end piece after ≡ true → from ≡ piece ++ after →
    b ≡ is_shaped piece → (b ≡ false → false ≡ is_candidate before piece after) × (b ≡ true → is_begin before from ≡ is_candidate before piece after)
by_shape before piece after from b ended is told =
    let whole : (c : Bool) → b ≡ c → is_candidate before piece after ≡ (is_begin before (piece ++ after) && c) =
    λ c e. ap₂ (λ x y. is_begin before (piece ++ after) && (x && y)) ended (sym told ∙ e) in (
      λ e. sym (whole false e ∙ and_false (is_begin before (piece ++ after))),
      λ e. ap (is_begin before) is ∙ sym (whole true e ∙ and_true (is_begin before (piece ++ after))),
    )
  where
    and_false : (b : Bool) → (b && false) ≡ false
    and_false true = refl
    and_false false = refl

    and_true : (b : Bool) → (b && true) ≡ b
    and_true true = refl
    and_true false = refl
