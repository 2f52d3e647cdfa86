-- Where a text may be cut, so that its parts are read apart.
use Rattle.std.specs.Prelude.{◌≡◌, ◌⊎◌, ◌++◌, ◌∷◌, [], ℕ, List}

-- bytes that end in a line feed, or none at all
abbrev pub EndsLine : List ℕ → Type 0
EndsLine bytes = (bytes ≡ []) ⊎ ((text : List ℕ) × (bytes ≡ text ++ 10 ∷ []))
