-- A text put among others.
use Rattle.std.proofs.Common.{◌≡◌, ◌||◌, ℕ, Bool, Result, Ok, Err, true, false, not, List, ◌∷◌, Decides, MatchBool, IsPermutation, refl, sym, ap, subst, ◌∙◌, bytes_eq}
use Rattle.std.specs.List.{list_any}
use Rattle.std.proofs.lemmas.List.Sorted.{list_any-IsPermutation}
use Rattle.std.proofs.lemmas.Slice.Eq.{bytes_eq-Decides}

pub not_not : (b : Bool) → b ≡ not (not b)
not_not true = refl
not_not false = refl

module _ {K : Type 0} (items : K → List ℕ) (old new : List K) (key : K) where
  -- it is among the others now, and nothing else is that wasn't
  pub put_among : (added : Bool) → added ≡ not (list_any (λ k. bytes_eq (items key) (items k)) old) → MatchBool added (IsPermutation (key ∷ old) new) (new ≡ old) →
      (t : List ℕ) → list_any (λ k. bytes_eq t (items k)) new ≡ (bytes_eq t (items key) || list_any (λ k. bytes_eq t (items k)) old)
  put_among true e put t = sym (list_any-IsPermutation (λ k. bytes_eq t (items k)) (key ∷ old) new put)
  put_among false e put t = ap (list_any (λ k. bytes_eq t (items k))) put ∙ by (bytes_eq t (items key)) refl (bytes_eq-Decides t (items key))
    where
      among : list_any (λ k. bytes_eq (items key) (items k)) old ≡ true
      among = not_not (list_any (λ k. bytes_eq (items key) (items k)) old) ∙ ap not (sym e)

      by : (b : Bool) → bytes_eq t (items key) ≡ b → Decides (bytes_eq t (items key)) (t ≡ items key) →
          list_any (λ k. bytes_eq t (items k)) old ≡ (bytes_eq t (items key) || list_any (λ k. bytes_eq t (items k)) old)
      by true s d = let same : t ≡ items key = d.0 s in
          subst (λ u. list_any (λ k. bytes_eq u (items k)) old ≡ true) (sym same) among ∙ ap (λ b. b || list_any (λ k. bytes_eq t (items k)) old) (sym s)
      by false s d = ap (λ b. b || list_any (λ k. bytes_eq t (items k)) old) (sym s)

abbrev ok_of : {E : Type 0} → Result Bool E → Bool
ok_of (Ok b) = b
ok_of (Err e) = false

-- what two equal results hold
pub same_ok : {E : Type 0} (a b : Bool) → ◌≡◌ {A = Result Bool E} (Ok a) (Ok b) → a ≡ b
same_ok a b e = ap ok_of e
