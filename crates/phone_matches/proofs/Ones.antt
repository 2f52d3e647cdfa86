-- A text has one list of matches, where a place is accepted as one thing at most.
use Rattle.std.proofs.Common.{◌≡◌, ℕ, suc, false, List, ◌++◌, map, Option, Some, refl, ap, ap₂, sym, subst, ◌∙◌, arith, true≢false}
use Rattle.std.specs.Option.{option_to_list}
use Rattle.phone_matches_text.proofs.PieceOnes.{pieces_same}
use Rattle.phone_matches_text.specs.Pieces.{Piece, signs}
use Rattle.phone_matches.specs.Searches
use Rattle.phone_matches.specs.Searches.{Accepts, AreMatches, IsAccepted, IsFirst, IsParted, IsTried, Matched, behind, candidate_in, left_of, passed, placed, tried}

module _ {N : Type 0} (accepts : Accepts N) (text : List ℕ)
    (one : (p : Piece) (m n : N) → IsAccepted accepts text p m → IsAccepted accepts text p n → m ≡ n) where
  first_same : (ps : List Piece) (a b : Option (Matched N)) (i j : ℕ) → IsFirst accepts text ps a i → IsFirst accepts text ps b j → (a ≡ b) × (i ≡ j)
  first_same ps a b i j Searches.none Searches.none = (refl, refl)
  first_same ps a b i j (Searches.here p others n h) (Searches.here q others₁ m g) = (ap (λ (k : N). Some (p, k)) (one p n m h g), refl)
  first_same ps a b i j (Searches.here p others n h) (Searches.later q others₁ found failed refused g) = absurd (refused n h)
  first_same ps a b i j (Searches.later p others found failed refused h) (Searches.here q others₁ n g) = absurd (refused n g)
  first_same ps a b i j (Searches.later p others found failed refused h) (Searches.later q others₁ found₁ failed₁ refused₁ g) =
      let same = first_same others found found₁ failed failed₁ h g in (same.0, ap suc same.1)

  parted_same : (c : Piece) (tries : ℕ) (a b : Option (Matched N)) (i j : ℕ) → IsParted accepts text c tries a i → IsParted accepts text c tries b j →
      (a ≡ b) × (i ≡ j)
  parted_same c tries a b i j g h =
      let pieces = pieces_same c.1 signs g.pieces h.pieces g.parts h.parts in
      let first = subst (λ (ps : List Piece). IsFirst accepts text (map (placed c.0) (tried false tries ps)) b h.failed) (sym pieces) h.first in
      let same = first_same (map (placed c.0) (tried false tries g.pieces)) a b g.failed h.failed g.first first in
      (same.0, g.remains ∙ ap₂ (λ (n : ℕ) (o : Option (Matched N)). left_of tries n o) same.1 same.0 ∙ sym h.remains)

  tried_same : (c : Piece) (tries : ℕ) (a b : Option (Matched N)) (i j : ℕ) → IsTried accepts text c tries a i → IsTried accepts text c tries b j →
      (a ≡ b) × (i ≡ j)
  tried_same c tries a b i j (Searches.dated d) (Searches.dated e) = (refl, refl)
  tried_same c tries a b i j (Searches.dated d) (Searches.whole n e h) = absurd (true≢false (sym d ∙ e))
  tried_same c tries a b i j (Searches.dated d) (Searches.parted found left e refused h) = absurd (true≢false (sym d ∙ e))
  tried_same c tries a b i j (Searches.whole n e h) (Searches.dated d) = absurd (true≢false (sym d ∙ e))
  tried_same c tries a b i j (Searches.whole n e h) (Searches.whole m d g) = (ap (λ (k : N). Some (c, k)) (one c n m h g), refl)
  tried_same c tries a b i j (Searches.whole n e h) (Searches.parted found left d refused g) = absurd (refused n h)
  tried_same c tries a b i j (Searches.parted found left e refused h) (Searches.dated d) = absurd (true≢false (sym d ∙ e))
  tried_same c tries a b i j (Searches.parted found left e refused h) (Searches.whole n d g) = absurd (refused n g)
  tried_same c tries a b i j (Searches.parted found left e refused h) (Searches.parted found₁ left₁ d refused₁ g) =
      parted_same c tries found found₁ left left₁ h g

  pub matches_same : (tries : ℕ) (rest : List ℕ) (a b : List (Matched N)) → AreMatches accepts text tries rest a → AreMatches accepts text tries rest b →
      a ≡ b
  matches_same tries rest a b (Searches.spent r) (Searches.spent q) = refl
  matches_same tries rest a b (Searches.spent r) (Searches.none t q h) = refl
  matches_same tries rest a b (Searches.spent r) (Searches.next t q found left on others some step h) = absurd (omega (arith, some))
  matches_same tries rest a b (Searches.none t r h) (Searches.spent q) = refl
  matches_same tries rest a b (Searches.none t r h) (Searches.none t₁ q g) = refl
  matches_same tries rest a b (Searches.none t r h) (Searches.next t₁ q found left on others some step g) = absurd (step.there h)
  matches_same tries rest a b (Searches.next t r found left on others some step h) (Searches.spent q) = absurd (omega (arith, some))
  matches_same tries rest a b (Searches.next t r found left on others some step h) (Searches.none t₁ q g) = absurd (step.there g)
  matches_same tries rest a b (Searches.next t r found left on others some step h) (Searches.next t₁ q found₁ left₁ on₁ others₁ some₁ step₁ g) =
      let same = tried_same (candidate_in text rest) tries found found₁ left left₁ step.tried step₁.tried in
      let ends : on ≡ on₁ =
      step.goes_on ∙ ap (λ (o : Option (Matched N)). behind text (passed (candidate_in text rest) o)) same.0 ∙ sym step₁.goes_on in
      let again : AreMatches accepts text left on others₁ =
      subst (λ (t : List ℕ). AreMatches accepts text left t others₁) (sym ends)
      (subst (λ n. AreMatches accepts text n on₁ others₁) (sym same.1) g) in
      ap₂ (λ (o : Option (Matched N)) (ms : List (Matched N)). option_to_list o ++ ms) same.0 (matches_same left on others others₁ h again)
