-- Matches in their order that don't overlap. A place is a count of characters.
use Rattle.std.specs.Prelude.{ℕ, ◌+◌, ◌≤◌, List, [], ◌∷◌, length, ⊤}
use Rattle.phone_matches.specs.Searches.{Matched}

-- from a place on: each begins where the one before it ends, or later
abbrev pub IsOrdered : {N : Type 0} → ℕ → List (Matched N) → Type 0
IsOrdered from [] = ⊤
IsOrdered from (m ∷ ms) =
    (from ≤ length m.0.0) × IsOrdered (length m.0.0 + length m.0.1) ms
