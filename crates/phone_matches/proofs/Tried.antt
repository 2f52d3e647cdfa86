-- What matches at a candidate.
use Rattle.std.proofs.Common.{◌≡◌, ℕ, ◌-◌, false, true, List, map, take, Option, None, Some, Result, Ok, Err, IfOk, IfSome, sym, subst, ◌∙◌, arith}
use Rattle.phone_matches_text.specs.Dates.{is_dated}
use Rattle.phone_matches_text.specs.Lent.{told_piece, told_pieces}
use Rattle.phone_matches_text.specs.Pieces.{ArePieces, Piece}
use Rattle.phone_matches_text.specs.declared.pieces.Piece.{Piece as Lent}
use Rattle.phone_matches.specs.Searches
use Rattle.phone_matches.specs.Searches.{Accepts, IsAccepted, IsFirst, IsParted, IsRefused, IsTried, Matched, behind, left_of, placed, tried}
use Rattle.phone_matches.proofs.Firsts.{map_take}

pub if_ok : {A E : Type 0} (r : Result A E) (P Q : A → Type 0) → ((x : A) → P x → Q x) → IfOk r P → IfOk r Q
if_ok (Ok x) P Q f h = f x h
if_ok (Err e) P Q f h = h

pub if_some : {A : Type 0} (o : Option A) (P Q : A → Type 0) → ((x : A) → P x → Q x) → IfSome o P → IfSome o Q
if_some None P Q f h = h
if_some (Some x) P Q f h = f x h

module _ {N : Type 0} (accepts : Accepts N) (text : List ℕ) (c : Piece) (tries : ℕ) where
  -- the pieces of a candidate, of which so many are tried
  pub parted_by : (ps : List Lent) (count failed : ℕ) (found seen : Option (Matched N)) (left : ℕ) → ArePieces c.1 (told_pieces ps) →
      take count (told_pieces ps) ≡ tried false tries (told_pieces ps) →
      IsFirst accepts text (map (placed c.0) (told_pieces (take count ps))) found failed → seen ≡ found → left ≡ left_of tries failed found →
      IsParted accepts text c tries seen left
  parted_by ps count failed found seen left parts some first same left_is =
      subst (λ (o : Option (Matched N)). IsParted accepts text c tries o left) (sym same) (record {
        pieces = told_pieces ps;
        failed = failed;
        parts = parts;
        first =
            subst (λ (qs : List Piece). IsFirst accepts text (map (placed c.0) qs) found failed) (map_take told_piece ps count ∙ some) first;
        remains = left_is;
      })

  pub tried_dated : (found : Option (Matched N)) (left : ℕ) → is_dated c.1 (behind text c) ≡ true → found ≡ None → left ≡ tries - 0 - 1 →
      IsTried accepts text c tries found left
  tried_dated found left dated none is =
      let same : tries - 1 ≡ left = omega (arith, is) in
      subst (λ (o : Option (Matched N)). IsTried accepts text c tries o left) (sym none)
      (subst (IsTried accepts text c tries None) same (Searches.dated dated))

  pub tried_whole : (n : N) (found : Option (Matched N)) (left : ℕ) → is_dated c.1 (behind text c) ≡ false → IsAccepted accepts text c n →
      found ≡ Some (c, n) → left ≡ tries - 0 → IsTried accepts text c tries found left
  tried_whole n found left undated accepted some is =
      let same : tries ≡ left = omega (arith, is) in
      subst (λ (o : Option (Matched N)). IsTried accepts text c tries o left) (sym some)
      (subst (IsTried accepts text c tries (Some (c, n))) same (Searches.whole n undated accepted))
