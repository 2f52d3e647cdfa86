-- The last of a list of lengths.
use Rattle.std.proofs.Common.{◌≡◌, ℕ, ◌-◌, List, [], ◌∷◌, length, Some, refl, sym, ◌∙◌, ap, arith}
use Rattle.std.specs.List.{slice_get}
use Rattle.phone_read.specs.Verdicts.{last_of}

get_last : (x : ℕ) (xs : List ℕ) → slice_get (x ∷ xs) (length xs) ≡ Some (last_of x xs)
get_last x [] = refl
get_last x (y ∷ ys) = get_last y ys

pub last_of-get : (least : ℕ) (xs : List ℕ) (v : ℕ) → slice_get xs (length xs - 1) ≡ Some v → v ≡ last_of least xs
last_of-get least [] v h = cc
last_of-get least (x ∷ xs) v h =
    let place : length (x ∷ xs) - 1 ≡ length xs = omega arith in
    let found : Some v ≡ Some (last_of x xs) = sym h ∙ ap (slice_get (x ∷ xs)) place ∙ get_last x xs in cc
