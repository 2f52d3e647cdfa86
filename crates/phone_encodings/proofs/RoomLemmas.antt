-- Bytes between two places of a room.
use Rattle.std.proofs.Common.{◌≡◌, ℕ, ◌+◌, ◌-◌, ◌≤◌, List, ◌++◌, ap, arith, drop, length, sym}
use Rattle.std.proofs.Common.{refl, take, ◌∙◌}
use Rattle.std.proofs.lemmas.List.{drop-append-le, drop-drop, drop-take, length-take}
use Rattle.std.proofs.lemmas.List.{length-take-le, take-append-le}
use Rattle.std.proofs.Math.Seq.{take-append-add}
use Rattle.std.proofs.lemmas.Slice.{take-put_mid}
use borrow.Rule.Slice.PartMut.{post_of, put_mid}

-- a front is as long as it is asked for at most
pub front_most : (n : ℕ) (xs : List ℕ) → length (take n xs) ≤ n
front_most n xs = omega (arith, length-take n xs)

-- between two places: what is in front of the second, without what is in front of the first
between_places : (room : List ℕ) (p f : ℕ) → p ≤ f →
    take (f - p) (drop p room) ≡ drop p (take f room)
between_places room p f h =
    let e : p + (f - p) ≡ f = omega (arith, h) in
    sym (drop-take p (f - p) room) ∙ ap (λ k. drop p (take k room)) e

-- the first n are left out
pub pass_view : (room : List ℕ) (p f n : ℕ) → p + n ≤ f →
    take (f - (p + n)) (drop (p + n) room) ≡ drop n (take (f - p) (drop p room))
pass_view room p f n h =
    let m = f - (p + n) in
    let e : n + m ≡ f - p = omega (arith, h) in
    ap (take m) (sym (drop-drop n p room)) ∙ sym (drop-take n m (drop p room)) ∙
    ap (λ k. drop n (take k (drop p room))) e

-- others are put behind
pub put_view : (room ys : List ℕ) (p f k : ℕ) → p ≤ f → f ≤ length room →
    take (f + length ys - p) (drop p (put_mid f k room ys)) ≡
    take (f - p) (drop p room) ++ ys
put_view room ys p f k from within =
    let all = f + length ys in
    let h : p ≤ all = omega (arith, from) in
    let long : p ≤ length (take f room) = omega (arith, from, length-take-le f room within) in
    between_places (put_mid f k room ys) p all h ∙
    ap (drop p) (take-put_mid f k room ys all refl within) ∙
    drop-append-le p (take f room) ys long ∙
    ap (λ x. x ++ ys) (sym (between_places room p f from))

-- some were read behind a place
pub read_view : (room buf : List ℕ) (at k n : ℕ) → at ≤ length room → n ≤ length buf →
    take (at + n) (put_mid at k room buf) ≡ take at room ++ take n buf
read_view room buf at k n from within =
    ap (λ l. take (l + n) (put_mid at k room buf)) (sym (length-take-le at room from)) ∙
    take-append-add (take at room) (buf ++ post_of at k room) n ∙
    ap (λ x. take at room ++ x) (take-append-le n buf (post_of at k room) within)
