-- The steps of the search so far.
use Rattle.std.proofs.Common.{◌≡◌, ℕ, ◌<◌, List, [], ◌++◌, append-nil, append_assoc, Option, sym, subst}
use Rattle.std.specs.Option.{option_to_list}
use Rattle.phone_matches.specs.Searches
use Rattle.phone_matches.specs.Searches.{Accepts, AreMatches, IsStep, Matched}
use Rattle.phone_matches_text.specs.Candidates.{from_candidate}

module _ {N : Type 0} (accepts : Accepts N) (text : List ℕ) (tries : ℕ) where
  -- with the matches from here on, those so far are all
  abbrev pub SoFar : (left : ℕ) → (rest : List ℕ) → List (Matched N) → Type 0
  SoFar left rest done = (more : List (Matched N)) → AreMatches accepts text left rest more →
      AreMatches accepts text tries text (done ++ more)

  pub so_far_next : (left : ℕ) (rest : List ℕ) (done new : List (Matched N)) (found : Option (Matched N)) (after : ℕ) (on : List ℕ) →
      SoFar left rest done → 0 < left → IsStep accepts text left rest found after on → new ≡ done ++ option_to_list found → SoFar after on new
  so_far_next left rest done new found after on so_far some step is more h =
      subst (λ (ms : List (Matched N)). AreMatches accepts text tries text (ms ++ more)) (sym is)
      (subst (AreMatches accepts text tries text) (sym (append_assoc done (option_to_list found) more))
      (so_far (option_to_list found ++ more) (Searches.next left rest found after on more some step h)))

  pub all_spent : (left : ℕ) (rest : List ℕ) (done : List (Matched N)) → SoFar left rest done → left ≡ 0 →
      AreMatches accepts text tries text done
  all_spent left rest done so_far spent =
      subst (AreMatches accepts text tries text) (append-nil done)
      (so_far [] (subst (λ n. AreMatches accepts text n rest []) (sym spent) (Searches.spent rest)))

  pub all_found : (left : ℕ) (rest : List ℕ) (done : List (Matched N)) → SoFar left rest done → from_candidate rest ≡ [] →
      AreMatches accepts text tries text done
  all_found left rest done so_far none =
      subst (AreMatches accepts text tries text) (append-nil done) (so_far [] (Searches.none left rest none))
