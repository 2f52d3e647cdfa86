-- The mark of UTF-16, U+FEFF, at the beginning of bytes.
use Rattle.std.specs.Prelude.{◌≡◌, ℕ, ◌==◌, ◌&&◌, ◌||◌, Bool, true, false, List, [], ◌∷◌, ◌++◌}
use Rattle.std.specs.Prelude.{Option, None, Some, option_map, ⊤}

-- bytes begin with it, in either order of its two bytes
abbrev pub has_mark : List ℕ → Bool
has_mark [] = false
has_mark (a ∷ []) = false
has_mark (a ∷ b ∷ bytes) = ((a == 0xFF) && (b == 0xFE)) || ((a == 0xFE) && (b == 0xFF))

-- whether they do depends on what comes behind these first bytes
abbrev pub is_open : List ℕ → Bool
is_open [] = true
is_open (a ∷ []) = (a == 0xFF) || (a == 0xFE)
is_open (a ∷ b ∷ bytes) = false

-- this tells of the bytes to come, where a source tells them, whether they begin with it
abbrev pub Marks : Bool → Option (List ℕ) → Type 0
Marks is None = ⊤
Marks is (Some bytes) = is ≡ has_mark bytes

-- the bytes to come, where some are held back that were read of a source
abbrev pub held_back : List ℕ → Option (List ℕ) → Option (List ℕ)
held_back held bytes = option_map (λ more. held ++ more) bytes

-- a source, and the bytes that are held back
pub record Looking (S : Type 0) : Type 0 where
  pub source : S
  pub held : List ℕ
