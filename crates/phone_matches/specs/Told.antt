-- Matches as the code holds them, told as lists.
use Rattle.std.specs.Prelude.{◌≡◌, ℕ, ◌+◌, ◌≤◌, List, [], map, length, Option, option_map}
use Rattle.std.specs.List.{AllByRecursion}
use Rattle.phone_matches_text.specs.Lent.{StandsThere, told_piece}
use Rattle.phone_matches.specs.Searches.{Matched}
use Rattle.phone_matches.specs.declared.places.Match.{Match}

-- a match by the characters of its place
abbrev pub told_match : {N : Type 0} → Match N → Matched N
told_match m = (told_piece m.place, m.number)

-- matches by those
abbrev pub told_matches : {N : Type 0} → List (Match N) → List (Matched N)
told_matches ms = map told_match ms

-- the matches stand in a text, by its bytes
abbrev pub AllMatchThere : {N : Type 0} → List ℕ → List (Match N) → Type 0
AllMatchThere text ms = AllByRecursion (λ m. StandsThere text m.place) ms

-- what was found, so
abbrev pub told_found : {N : Type 0} → Option (Match N) → Option (Matched N)
told_found found = option_map told_match found

-- a match stands in a text, in this end of it, and isn't empty
pub record IsWithin {N : Type 0} (text from : List ℕ) (m : Match N) : Type 0 where
  pub stands : StandsThere text m.place
  pub begins : length text ≤ length m.place.before.now + length from
  pub some : ¬ (m.place.text.now ≡ [])
