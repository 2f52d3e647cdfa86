-- Texts between two spaces. Texts are lists of characters.
use Rattle.std.specs.Prelude.{◌≡◌, true, false, ℕ, List, [], ◌∷◌, ◌++◌, codes}
use Rattle.phone_matches_text.specs.Brackets.{has_good_brackets, has_pages}
use Rattle.phone_matches_text.specs.Candidates.{begins_candidate, candidate_at}
use Rattle.phone_matches_text.specs.Dates.{is_dated}

-- a space
abbrev pub space : List ℕ
space = 32 ∷ []

-- a text between two spaces
abbrev pub spaced : List ℕ → List ℕ
spaced t = space ++ (t ++ space)

-- a space and the scheme of RFC 3966
abbrev pub scheme : List ℕ
scheme = space ++ codes "tel:"

-- a text between these and a space
abbrev pub linked : List ℕ → List ℕ
linked t = scheme ++ (t ++ space)

-- by its characters a text may be a number between two spaces: a candidate begins there and ends
-- with the text, it is no date, its brackets are good, and no page numbers stand in it
pub record StandsWhole (t : List ℕ) : Type 0 where
  pub begins : begins_candidate (t ++ space) ≡ true
  pub whole : candidate_at (t ++ space) ≡ t
  pub no_date : is_dated t space ≡ false
  pub brackets : has_good_brackets t ≡ true
  pub no_pages : has_pages t ≡ false
