-- The pieces that a loop looks at.
use Rattle.std.proofs.Common.{◌≡◌, ℕ, zero, suc, ◌+◌, ◌-◌, ◌<◌, nat_lt, not, ◌&&◌, ◌||◌, Bool, true, false, List, [], ◌∷◌, ◌++◌, length, drop, take, get_or, map, append_assoc, append-nil, Option, None, Some, refl, ap, sym, subst, ◌∙◌, arith}
use Rattle.std.specs.List.{AllByRecursion}
use Rattle.phone_matches_text.specs.Lent.{told_piece, told_pieces}
use Rattle.phone_matches_text.specs.Pieces.{Piece}
use Rattle.phone_matches_text.specs.declared.pieces.Piece.{Piece as Lent}
use Rattle.phone_matches.specs.Searches
use Rattle.phone_matches.specs.Searches.{Accepts, IsAccepted, IsFirst, IsRefused, Matched, is_front, placed, tried}

-- images from a place on
drop_map : {X Y : Type 0} (f : X → Y) (xs : List X) (i : ℕ) (d : X) → i < length xs → drop i (map f xs) ≡ f (get_or xs i d) ∷ drop (suc i) (map f xs)
drop_map f [] i d less = absurd (omega (arith, less))
drop_map f (x ∷ xs) zero d less = refl
drop_map f (x ∷ xs) (suc i) d less = drop_map f xs i d (omega (arith, less))

-- and up to it
take_map : {X Y : Type 0} (f : X → Y) (xs : List X) (i : ℕ) (d : X) → i < length xs →
    take (suc i) (map f xs) ≡ take i (map f xs) ++ f (get_or xs i d) ∷ []
take_map f [] i d less = absurd (omega (arith, less))
take_map f (x ∷ xs) zero d less = refl
take_map f (x ∷ xs) (suc i) d less = ap (λ t. f x ∷ t) (take_map f xs i d (omega (arith, less)))

drop_all : {X Y : Type 0} (f : X → Y) (xs : List X) → drop (length xs) (map f xs) ≡ []
drop_all f [] = refl
drop_all f (x ∷ xs) = drop_all f xs

-- what holds of each holds at a place
pub all_get : {X : Type 0} (P : X → Type 0) (xs : List X) (i : ℕ) (d : X) → i < length xs → AllByRecursion P xs → P (get_or xs i d)
all_get P [] i d less all = absurd (omega (arith, less))
all_get P (x ∷ xs) zero d less all = all.0
all_get P (x ∷ xs) (suc i) d less all = all_get P xs i d (omega (arith, less)) all.1

-- what holds of each holds of the first ones
pub all_take : {X : Type 0} (P : X → Type 0) (xs : List X) (n : ℕ) → AllByRecursion P xs → AllByRecursion P (take n xs)
all_take P [] zero h = tt
all_take P [] (suc n) h = tt
all_take P (x ∷ xs) zero h = tt
all_take P (x ∷ xs) (suc n) h = (h.0, all_take P xs n h.1)

-- something else of each
pub all_weaker : {X : Type 0} (P Q : X → Type 0) (xs : List X) → ((x : X) → P x → Q x) → AllByRecursion P xs → AllByRecursion Q xs
all_weaker P Q [] f h = tt
all_weaker P Q (x ∷ xs) f h = (f x h.0, all_weaker P Q xs f h.1)

pub map_take : {X Y : Type 0} (f : X → Y) (xs : List X) (n : ℕ) → map f (take n xs) ≡ take n (map f xs)
map_take f [] zero = refl
map_take f [] (suc n) = refl
map_take f (x ∷ xs) zero = refl
map_take f (x ∷ xs) (suc n) = ap (λ t. f x ∷ t) (map_take f xs n)

pub all_push : {X : Type 0} (P : X → Type 0) (xs : List X) (x : X) → AllByRecursion P xs → P x → AllByRecursion P (xs ++ x ∷ [])
all_push P [] x h p = (p, tt)
all_push P (y ∷ ys) x h p = (h.0, all_push P ys x h.1 p)

module _ {N : Type 0} (accepts : Accepts N) (text front : List ℕ) (pieces : List Lent) where
  abbrev places : List Piece
  places = map (placed front) (told_pieces pieces)

  -- from a place on the first is the first of all, where none before it is accepted
  abbrev pub FirstFrom : ℕ → Type 0
  FirstFrom i = (found : Option (Matched N)) (failed : ℕ) → IsFirst accepts text (drop i (map (placed front) (told_pieces pieces))) found failed →
      IsFirst accepts text (map (placed front) (told_pieces pieces)) found (i + failed)

  from_here : (xs : List Lent) (i : ℕ) (d : Lent) → i < length xs →
      drop i (map (placed front) (told_pieces xs)) ≡ placed front (told_piece (get_or xs i d)) ∷ drop (suc i) (map (placed front) (told_pieces xs))
  from_here [] i d less = absurd (omega (arith, less))
  from_here (x ∷ xs) zero d less = refl
  from_here (x ∷ xs) (suc i) d less = from_here xs i d (omega (arith, less))

  from_end : (xs : List Lent) → drop (length xs) (map (placed front) (told_pieces xs)) ≡ []
  from_end [] = refl
  from_end (x ∷ xs) = from_end xs

  pub first_start : FirstFrom 0
  first_start found failed h = subst (IsFirst accepts text places found) (omega arith) h

  pub first_next : (i j : ℕ) (d : Lent) (p : Piece) → FirstFrom i → i < length pieces → p ≡ placed front (told_piece (get_or pieces i d)) →
      j ≡ suc i → IsRefused accepts text p → FirstFrom j
  first_next i j d p so_far less is next refused found failed first =
      let first : IsFirst accepts text (drop (suc i) places) found failed = subst (λ k. IsFirst accepts text (drop k places) found failed) next first in
      let seam : p ∷ drop (suc i) places ≡ drop i places = ap (λ (q : Piece). q ∷ drop (suc i) places) is ∙ sym (from_here pieces i d less) in
      subst (IsFirst accepts text places found) (omega (arith, next))
      (so_far found (suc failed) (subst (λ (ps : List Piece). IsFirst accepts text ps found (suc failed)) seam
      (Searches.later p (drop (suc i) places) found failed refused first)))

  pub first_here : (i : ℕ) (d : Lent) (p : Piece) (n : N) → FirstFrom i → i < length pieces →
      p ≡ placed front (told_piece (get_or pieces i d)) → IsAccepted accepts text p n → IsFirst accepts text (map (placed front) (told_pieces pieces)) (Some (p, n)) i
  first_here i d p n so_far less is accepted =
      let seam : p ∷ drop (suc i) places ≡ drop i places = ap (λ (q : Piece). q ∷ drop (suc i) places) is ∙ sym (from_here pieces i d less) in
      subst (IsFirst accepts text places (Some (p, n))) (omega arith)
      (so_far (Some (p, n)) 0 (subst (λ (ps : List Piece). IsFirst accepts text ps (Some (p, n)) 0) seam
      (Searches.here p (drop (suc i) places) n accepted)))

  pub first_none : (i : ℕ) → FirstFrom i → i ≡ length pieces → IsFirst accepts text (map (placed front) (told_pieces pieces)) None (length pieces)
  first_none i so_far e =
      let nothing : drop i places ≡ [] = ap (λ k. drop k places) e ∙ from_end pieces in
      subst (IsFirst accepts text places None) (omega (arith, e))
      (so_far None 0 (subst (λ (ps : List Piece). IsFirst accepts text ps None 0) (sym nothing) Searches.none))

-- so many pieces are tried, and those that are tried of the others
abbrev pub TriedSoFar : (tries : ℕ) (pieces : List Lent) (i left : ℕ) (behind_front : Bool) → Type 0
TriedSoFar tries pieces i left behind_front =
    tried false tries (told_pieces pieces) ≡ take i (told_pieces pieces) ++ tried behind_front left (drop i (told_pieces pieces))

tried_one : (b : Bool) (left : ℕ) (p : Piece) (others : List Piece) → (b || nat_lt 0 left) ≡ true →
    tried b left (p ∷ others) ≡ p ∷ tried (not b && is_front p) (left - 1) others
tried_one b left p others h = rw h refl

tried_none : (b : Bool) (left : ℕ) (p : Piece) (others : List Piece) → (b || nat_lt 0 left) ≡ false → tried b left (p ∷ others) ≡ []
tried_none b left p others h = rw h refl

pub tried_next : (tries : ℕ) (pieces : List Lent) (i j left less_left : ℕ) (before after : Bool) (d : Lent) → TriedSoFar tries pieces i left before →
    i < length pieces → j ≡ suc i → (before || nat_lt 0 left) ≡ true →
    after ≡ (not before && is_front (told_piece (get_or pieces i d))) → less_left ≡ left - 1 → TriedSoFar tries pieces j less_left after
tried_next tries pieces i j left less_left before after d so_far less next goes a b =
    let ps = told_pieces pieces in
    let h : Lent = get_or pieces i d in
    let on = tried (not before && is_front (told_piece h)) (left - 1) (drop (suc i) ps) in
    let stepped : tried false tries ps ≡ take (suc i) ps ++ on =
    so_far ∙ ap (λ (t : List Piece). take i ps ++ tried before left t) (drop_map told_piece pieces i d less)
    ∙ ap (λ (t : List Piece). take i ps ++ t) (tried_one before left (told_piece h) (drop (suc i) ps) goes)
    ∙ sym (append_assoc (take i ps) (told_piece h ∷ []) on)
    ∙ ap (λ (t : List Piece). t ++ on) (sym (take_map told_piece pieces i d less)) in
    rw (next, a, b) stepped

pub tried_stops : (tries : ℕ) (pieces : List Lent) (i left : ℕ) (before : Bool) → TriedSoFar tries pieces i left before → i < length pieces →
    (before || nat_lt 0 left) ≡ false → take i (told_pieces pieces) ≡ tried false tries (told_pieces pieces)
tried_stops tries pieces i left before so_far less stops =
    sym (so_far ∙ ap (λ (t : List Piece). take i (told_pieces pieces) ++ t) (nothing pieces i less) ∙ append-nil (take i (told_pieces pieces)))
  where
    nothing : (xs : List Lent) (k : ℕ) → k < length xs → tried before left (drop k (told_pieces xs)) ≡ []
    nothing [] k less = absurd (omega (arith, less))
    nothing (x ∷ xs) zero less = tried_none before left (told_piece x) (told_pieces xs) stops
    nothing (x ∷ xs) (suc k) less = nothing xs k (omega (arith, less))

pub tried_end : (tries : ℕ) (pieces : List Lent) (i left : ℕ) (before : Bool) → TriedSoFar tries pieces i left before → i ≡ length pieces →
    take (length pieces) (told_pieces pieces) ≡ tried false tries (told_pieces pieces)
tried_end tries pieces i left before so_far e =
    let nothing : drop i (told_pieces pieces) ≡ [] = ap (λ k. drop k (told_pieces pieces)) e ∙ drop_all told_piece pieces in
    ap (λ k. take k (told_pieces pieces)) (sym e)
    ∙ sym (so_far ∙ ap (λ (t : List Piece). take i (told_pieces pieces) ++ tried before left t) nothing ∙ append-nil (take i (told_pieces pieces)))
