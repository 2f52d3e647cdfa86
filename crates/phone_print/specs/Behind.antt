-- What a refusal leaves of a text that others are put behind.
use Rattle.std.specs.Prelude.{◌≡◌, ℕ, List, ◌++◌}

-- the text, and perhaps something behind it
abbrev pub IsBehind : List ℕ → List ℕ → Type 0
IsBehind before after = (more : List ℕ) × (after ≡ before ++ more)
