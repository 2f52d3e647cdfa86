-- Where a text is cut: an end of it, its longest front of characters of a set, and what follows
-- that front.
use Rattle.std.specs.Prelude.{◌≡◌, ℕ, Bool, if◌then◌else◌, List, [], ◌∷◌, ◌++◌}

-- the text is something, and then this end of it
abbrev pub IsEnd : List ℕ → List ℕ → Type 0
IsEnd text rest = (v : List ℕ) × (text ≡ v ++ rest)

-- the longest front of characters that are in the set
abbrev pub front : (ℕ → Bool) → List ℕ → List ℕ
front p [] = []
front p (c ∷ cs) = if p c then c ∷ front p cs else []

-- what follows that front
abbrev pub after_front : (ℕ → Bool) → List ℕ → List ℕ
after_front p [] = []
after_front p (c ∷ cs) = if p c then after_front p cs else c ∷ cs
