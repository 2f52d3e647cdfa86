-- Matches come in their order and don't overlap.
use Rattle.std.proofs.Common.{◌≡◌, ◌⊎◌, inl, inr, ℕ, zero, suc, ◌+◌, ◌-◌, ◌≤◌, Bool, true, false, cond, List, [], ◌∷◌, ◌++◌, length, length-append, drop, take, map, Option, None, Some, IfSome, refl, ap, sym, subst, ◌∙◌, arith}
use Rattle.std.proofs.lemmas.List.{length-drop}
use Rattle.std.specs.List.{AllByRecursion}
use Rattle.std.specs.Option.{option_to_list}
use Rattle.phone_matches_text.specs.Candidates
use Rattle.phone_matches_text.specs.Candidates.{from_candidate}
use Rattle.phone_matches_text.specs.Pieces.{Piece}
use Rattle.phone_matches_text.specs.Shapes.{Test, before_end, from_first}
use Rattle.phone_matches.specs.Orders.{IsOrdered}
use Rattle.phone_matches.specs.Searches
use Rattle.phone_matches.specs.Searches.{Accepts, AreMatches, IsFirst, IsTried, Matched, behind, candidate_in, placed, tried}

pub first_shorter : (q : Test) (t : List ℕ) → length (from_first q t) ≤ length t
first_shorter q [] = omega arith
first_shorter q (c ∷ cs) = by_test (q (c ∷ cs)) (first_shorter q cs)
  where
    by_test : (b : Bool) → length (from_first q cs) ≤ length cs → length (cond b (c ∷ cs) (from_first q cs)) ≤ suc (length cs)
    by_test true h = omega arith
    by_test false h = omega (arith, h)

take_length : (n : ℕ) (t : List ℕ) → n ≤ length t → length (take n t) ≡ n
take_length zero t h = refl
take_length (suc n) [] h = absurd (omega (arith, h))
take_length (suc n) (c ∷ cs) h = ap suc (take_length n cs (omega (arith, h)))

module _ {N : Type 0} (accepts : Accepts N) (text : List ℕ) where
  first_all : (Q : Piece → Type 0) (ps : List Piece) (found : Option (Matched N)) (failed : ℕ) → AllByRecursion Q ps → IsFirst accepts text ps found failed →
      IfSome found (λ (m : Matched N). Q m.0)
  first_all Q ps found failed all Searches.none = tt
  first_all Q ps found failed all (Searches.here p others n h) = all.0
  first_all Q ps found failed all (Searches.later p others found₁ failed₁ refused h) = first_all Q others found₁ failed₁ all.1 h

  all_placed : (b : List ℕ) (ps : List Piece) → AllByRecursion (λ (p : Piece). length b ≤ length p.0) (map (placed b) ps)
  all_placed b [] = tt
  all_placed b (p ∷ ps) = (let l = length-append b p.0 in omega (arith, l), all_placed b ps)

  -- a match begins where its candidate does, or later
  pub tried_behind : (c : Piece) (tries : ℕ) (found : Option (Matched N)) (left : ℕ) → IsTried accepts text c tries found left →
      IfSome found (λ (m : Matched N). length c.0 ≤ length m.0.0)
  tried_behind c tries found left (Searches.dated d) = tt
  tried_behind c tries found left (Searches.whole n d h) = omega arith
  tried_behind c tries found left (Searches.parted found₁ left₁ d refused h) =
      first_all (λ (p : Piece). length c.0 ≤ length p.0) _ found₁ h.failed (all_placed c.0 (tried false tries h.pieces)) h.first

  -- in an end that begins at a place of the text, or is empty
  abbrev BeginsAt : ℕ → List ℕ → Type 0
  BeginsAt from rest = (from + length rest ≤ length text) ⊎ (rest ≡ [])

  pub from_length : (rest : List ℕ) → length rest ≤ length text → length (before_end text (from_candidate rest)) ≡ length text - length (from_candidate rest)
  from_length rest h = take_length (length text - length (from_candidate rest)) text (omega arith)

  behind_at : (p : Piece) → BeginsAt (length p.0 + length p.1) (behind text p)
  behind_at p = by_length (drop (length p.0 + length p.1) text) (length-drop (length p.0 + length p.1) text)
    where
      by_length : (t : List ℕ) → length t ≡ length text - (length p.0 + length p.1) → BeginsAt (length p.0 + length p.1) t
      by_length [] e = inr refl
      by_length (c ∷ cs) e = inl (omega (arith, e))

  on_short : (p : Piece) (on : List ℕ) → on ≡ behind text p → length on ≤ length text
  on_short p on e =
      let l = ap length e ∙ length-drop (length p.0 + length p.1) text in
      omega (arith, l)

  next_ordered : (tries : ℕ) (rest : List ℕ) (found : Option (Matched N)) (left : ℕ) (on : List ℕ) (others : List (Matched N)) (from : ℕ) →
      Searches.IsStep accepts text tries rest found left on → length rest ≤ length text → from + length rest ≤ length text →
      ((at : ℕ) → BeginsAt at on → IsOrdered at others) → IsOrdered from (option_to_list found ++ others)
  next_ordered tries rest None left on others from step short within later =
      let c = candidate_in text rest in
      let l = ap length step.goes_on ∙ length-drop (length c.0 + length c.1) text in
      let f = from_length rest short in
      let s = first_shorter Candidates.begins_candidate rest in
      later from (inl (omega (arith, l, f, s, short, within)))
  next_ordered tries rest (Some m) left on others from step short within later =
      let b = tried_behind (candidate_in text rest) tries (Some m) left step.tried in
      let f = from_length rest short in
      let s = first_shorter Candidates.begins_candidate rest in (
        omega (arith, b, f, s, short, within),
        later (length m.0.0 + length m.0.1) (subst (BeginsAt (length m.0.0 + length m.0.1)) (sym step.goes_on) (behind_at m.0)),
      )

  ordered : (tries : ℕ) (rest : List ℕ) (all : List (Matched N)) → AreMatches accepts text tries rest all → (from : ℕ) →
      length rest ≤ length text → BeginsAt from rest → IsOrdered from all
  ordered tries rest all (Searches.spent r) from short at = tt
  ordered tries rest all (Searches.none t r h) from short at = tt
  ordered tries rest all (Searches.next t r found left on others some step h) from short (inr e) = absurd (step.there (ap from_candidate e))
  ordered tries rest all (Searches.next t r found left on others some step h) from short (inl within) =
      next_ordered t r found left on others from step short within (λ at b. ordered left on others h at (on_short _ on step.goes_on) b)

  pub all_ordered : (tries : ℕ) (all : List (Matched N)) → AreMatches accepts text tries text all → IsOrdered 0 all
  all_ordered tries all h = ordered tries text all h 0 (omega arith) (inl (omega arith))
