-- Lines that are taken in their turn are answered in one way, where each of them is.
use Rattle.std.proofs.Common.{◌≡◌, ℕ, List, [], ◌∷◌, ◌++◌, sym, ap₂, subst}
use Rattle.std.proofs.lemmas.List.{same_from_push}
use Rattle.phone_lines.specs.Lines.{without_return}
use Rattle.phone_lines.specs.Taken.{AreTaken, Begins, BeginsInOneWay, Gives, GivesInOneWay, IsReport}
use Rattle.phone_lines.specs.Taken.AreTaken.{begun, next}
use Rattle.phone_lines.proofs.AnswerLemmas.{same_lines}

not_pushed : {X : Type 0} (xs : List X) (x : X) → [] ≡ xs ++ x ∷ [] → ⊥
not_pushed [] x e = cc
not_pushed (y ∷ xs) x e = cc

module _ {Kept : Type 0} (begins : Begins Kept) (gives : Gives Kept) (first : Kept)
    (begins_once : BeginsInOneWay begins) (gives_once : GivesInOneWay gives) where
  same_taken : (lines others : List (List ℕ)) (a b : List ℕ) (p q : Kept) → lines ≡ others →
      AreTaken begins gives first lines a p → AreTaken begins gives first others b q →
      (a ≡ b) × (p ≡ q)
  same_taken _ _ a b p q e (begun _ _ h) (begun _ _ i) = begins_once first a b p q h i
  same_taken _ _ _ _ _ _ e (begun _ _ h) (next lines _ _ line _ _ _ _) =
      absurd (not_pushed lines line e)
  same_taken _ _ _ _ _ _ e (next lines _ _ line _ _ _ _) (begun _ _ h) =
      absurd (not_pushed lines line (sym e))
  same_taken _ _ _ _ _ _ e (next ls told k l x p are g) (next ms bs j m y q are' g') =
      let pieces = same_from_push ls ms l m e in
      let r = same_taken ls ms told bs k j pieces.0 are are' in
      let h = subst (λ s. gives s (without_return l) x p) r.1 g in
      let i = subst (λ t. gives j (without_return t) y q) (sym pieces.1) g' in
      let s = gives_once j (without_return l) x y p q h i in
      (ap₂ (λ u v. u ++ v) r.0 s.0, s.1)

  pub same_report : (bytes a b : List ℕ) (p q : Kept) → IsReport begins gives first bytes p a →
      IsReport begins gives first bytes q b → (a ≡ b) × (p ≡ q)
  same_report bytes a b p q (lines, are, taken) (others, are', taken') =
      same_taken lines others a b p q (same_lines bytes lines others are are') taken taken'
