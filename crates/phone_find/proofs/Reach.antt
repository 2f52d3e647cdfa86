-- How far a piece that may be a number reaches.
use Rattle.std.proofs.Common.{◌≡◌, ℕ, ◌-◌, ◌<◌, ◌≤◌, Bool, true, false, List, [], ◌∷◌, ◌++◌, drop, leb, length, slice_range, take}
use Rattle.std.proofs.Common.{IsCharBoundary, IsUtf8, append_assoc, ap, sym, subst, ◌∙◌, refl, arith, length-append}
use Rattle.std.proofs.lemmas.Bool.{leb-false, leb-true}
use Rattle.std.proofs.lemmas.List.{length-drop, length-take-le, nil_from_length, take-append-drop, take-take}
use Rattle.std.proofs.lemmas.Str.{IsCharBoundary-at_seam, IsCharBoundary-from_take, IsUtf8-between, IsUtf8-drop, IsUtf8-take, chars-append}
use Rattle.std.proofs.Math.Seq.{take-append_seam}
use Rattle.std.specs.Str.{chars}
use Rattle.phone_chars.specs.Cuts.{IsEnd}
use Rattle.phone_find.specs.Standing.{is_candidate}
use Rattle.phone_find.specs.Shapes.{has_few_digits}
use Rattle.phone_parts.proofs.Cores.{nil_from_chars}
use Rattle.phone_parts.proofs.Longest.{cuts_meet}
use Rattle.phone_find.proofs.Begins.{candidate_shape}

utf8_before : (whole front rest : List ℕ) → whole ≡ front ++ rest → IsUtf8 whole → IsUtf8 rest → IsUtf8 front
utf8_before whole front rest is u w =
    subst IsUtf8 (ap (λ t. take (length front) t) is ∙ take-append_seam front rest)
    (IsUtf8-take whole (length front) u (IsCharBoundary-at_seam whole front rest is w))

-- of two ends of a text the one with no more characters has no more bytes
fewer_bytes : (text a b x y : List ℕ) → text ≡ a ++ x → text ≡ b ++ y → IsUtf8 x → IsUtf8 y → length (chars x) ≤ length (chars y) →
    length x ≤ length y
fewer_bytes text a b x y by_x by_y u w few = by_length (leb (length x) (length y)) refl
  where
    longer : length y < length x → length x ≤ length y
    longer more =
        let same : b ++ y ≡ a ++ x = sym by_y ∙ by_x in
        let long : length a ≤ length b = omega (arith, ap length same, length-append a x, length-append b y, more) in
        let m = cuts_meet b y a x same long in
        let v = utf8_before x m.0 y m.2 u w in
        let read = ap chars m.2 ∙ chars-append m.0 y v in
        let none : length (chars m.0) ≡ 0 = omega (arith, ap length read, length-append (chars m.0) (chars y), few) in
        let empty = nil_from_chars m.0 v (nil_from_length (chars m.0) none) in
        omega (arith, ap length m.2, length-append m.0 y, ap length empty)

    by_length : (e : Bool) → leb (length x) (length y) ≡ e → length x ≤ length y
    by_length true e = leb-true (length x) (length y) e
    by_length false e = longer (leb-false (length x) (length y) e)

-- none with few digits ends behind the digit that is one too many
few_reach : (text : List ℕ) (end : ℕ) (rest : List ℕ) → IsUtf8 text → 0 < end → IsCharBoundary text end → IsUtf8 rest → IsEnd text rest →
    ((piece after : List ℕ) → chars text ≡ piece ++ after → has_few_digits piece ≡ true → length (chars rest) ≤ length after) →
    has_few_digits (chars (take end text)) ≡ true → end ≤ length text - length rest
few_reach text end rest u some to w is bound few =
    let piece = take end text in
    let after = drop end text in
    let read : chars text ≡ chars piece ++ chars after = ap chars (sym (take-append-drop end text)) ∙ chars-append piece after (IsUtf8-take text end u to) in
    let fewer = bound (chars piece) (chars after) read few in
    let bytes = fewer_bytes text is.0 piece rest after is.1 (sym (take-append-drop end text)) w (IsUtf8-drop text end u to) fewer in
    omega (arith, bytes, length-drop end text, to.0)

-- a piece that may be a number ends in no window behind the digit that is one too many there
pub candidate_reach : (text : List ℕ) (start end most : ℕ) (rest : List ℕ) → IsUtf8 text → start < end → end ≤ most → IsCharBoundary text start →
    IsCharBoundary text end → IsCharBoundary text most → IsUtf8 rest → IsEnd (slice_range text start most) rest →
    ((piece after : List ℕ) → chars (slice_range text start most) ≡ piece ++ after → has_few_digits piece ≡ true → length (chars rest) ≤ length after) →
    is_candidate (chars (take start text)) (chars (slice_range text start end)) (chars (drop end text)) ≡ true →
    end ≤ most - length rest
candidate_reach text start end most rest u some within from to last w is bound candidate =
    let window = slice_range text start most in
    let n = end - start in
    let few = (candidate_shape (chars (take start text)) (chars (slice_range text start end)) (chars (drop end text)) candidate).0 in
    let v = IsUtf8-between text start most u (omega (arith, some, within)) from last in
    let same : take n window ≡ slice_range text start end = take-take n (most - start) (drop start text) (omega (arith, some, within)) in
    let long : length window ≡ most - start = length-take-le (most - start) (drop start text) (omega (arith, length-drop start text, last.0)) in
    let seam = IsCharBoundary-from_take window n v (omega (arith, long, some, within)) (subst IsUtf8 (sym same)
    (IsUtf8-between text start end u (omega (arith, some)) from to)) in
    let far = few_reach window n rest v (omega (arith, some)) seam w is bound (ap (λ t. has_few_digits (chars t)) same ∙ few) in
    omega (arith, far, long, some, within)

-- a border up to a place isn't behind the nearest one before that place
pub border_before : (text : List ℕ) (end most at : ℕ) → end ≤ at → ((i : ℕ) → most < i → i ≤ at → ¬ (IsCharBoundary text i)) →
    IsCharBoundary text end → end ≤ most
border_before text end most at near nearest border = by_place (leb end most) refl
  where
    by_place : (e : Bool) → leb end most ≡ e → end ≤ most
    by_place true e = leb-true end most e
    by_place false e = absurd (nearest end (leb-false end most e) near border)
