-- Lines of bytes.
use Rattle.std.specs.Prelude.{◌≡◌, ℕ, ◌==◌, false, if◌then◌else◌, List, [], ◌∷◌, ◌++◌, flat_map}
use Rattle.std.specs.List.{AllByRecursion, list_any}

-- lines put one after the other, each ended by a line feed
abbrev pub ended : List (List ℕ) → List ℕ
ended lines = flat_map (λ line. line ++ 10 ∷ []) lines

-- a text without line feeds
abbrev pub IsUnbroken : List ℕ → Type 0
IsUnbroken text = list_any (λ c. c == 10) text ≡ false

-- bytes cut at each line feed: the lines that one ends, and what stands after the last one
pub record AreCut (bytes : List ℕ) (lines : List (List ℕ)) (last : List ℕ) : Type 0 where
  pub whole : bytes ≡ ended lines ++ last
  pub unbroken : AllByRecursion IsUnbroken lines
  pub last_unbroken : IsUnbroken last

-- what stands after the last line feed is a line where it has a byte
abbrev pub last_line : List ℕ → List (List ℕ)
last_line [] = []
last_line (c ∷ cs) = (c ∷ cs) ∷ []

-- the lines of bytes: those that a line feed ends, and the last one
abbrev pub AreLines : List ℕ → List (List ℕ) → Type 0
AreLines bytes all = (lines : List (List ℕ)) × (last : List ℕ) × AreCut bytes lines last ×
    (all ≡ lines ++ last_line last)

-- a line without one carriage return at its end
abbrev pub without_return : List ℕ → List ℕ
without_return [] = []
without_return (c ∷ []) = if c == 13 then [] else c ∷ []
without_return (c ∷ d ∷ cs) = c ∷ without_return (d ∷ cs)
