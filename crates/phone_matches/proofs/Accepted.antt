-- What is found is accepted.
use Rattle.std.proofs.Common.{ℕ, List, [], ◌∷◌, ◌++◌, Option, None, Some, IfSome}
use Rattle.std.specs.List.{AllByRecursion}
use Rattle.std.specs.Option.{option_to_list}
use Rattle.phone_matches_text.specs.Pieces.{Piece}
use Rattle.phone_matches.specs.Searches
use Rattle.phone_matches.specs.Searches.{Accepts, AreMatches, IsAccepted, IsFirst, IsTried, Matched}

module _ {N : Type 0} (accepts : Accepts N) (text : List ℕ) where
  first_accepted : (ps : List Piece) (found : Option (Matched N)) (failed : ℕ) → IsFirst accepts text ps found failed →
      IfSome found (λ (m : Matched N). IsAccepted accepts text m.0 m.1)
  first_accepted ps found failed Searches.none = tt
  first_accepted ps found failed (Searches.here p others n h) = h
  first_accepted ps found failed (Searches.later p others found₁ failed₁ refused h) = first_accepted others found₁ failed₁ h

  pub tried_accepted : (c : Piece) (tries : ℕ) (found : Option (Matched N)) (left : ℕ) → IsTried accepts text c tries found left →
      IfSome found (λ (m : Matched N). IsAccepted accepts text m.0 m.1)
  tried_accepted c tries found left (Searches.dated d) = tt
  tried_accepted c tries found left (Searches.whole n d h) = h
  tried_accepted c tries found left (Searches.parted found₁ left₁ d refused h) = first_accepted _ found₁ h.failed h.first

  with_found : (found : Option (Matched N)) (others : List (Matched N)) (P : Matched N → Type 0) → IfSome found P → AllByRecursion P others →
      AllByRecursion P (option_to_list found ++ others)
  with_found None others P h all = all
  with_found (Some m) others P h all = (h, all)

  pub all_accepted : (tries : ℕ) (rest : List ℕ) (all : List (Matched N)) → AreMatches accepts text tries rest all →
      AllByRecursion (λ (m : Matched N). IsAccepted accepts text m.0 m.1) all
  all_accepted tries rest all (Searches.spent r) = tt
  all_accepted tries rest all (Searches.none t r h) = tt
  all_accepted tries rest all (Searches.next t r found left on others some step h) =
      with_found found others _ (tried_accepted _ t found left step.tried) (all_accepted left on others h)

pub all_weaker : {X : Type 0} (P Q : X → Type 0) (xs : List X) → ((x : X) → P x → Q x) → AllByRecursion P xs → AllByRecursion Q xs
all_weaker P Q [] f h = tt
all_weaker P Q (x ∷ xs) f h = (f x h.0, all_weaker P Q xs f h.1)
