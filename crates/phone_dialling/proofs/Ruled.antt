-- A text with its first group of digits written by a rule.
use Rattle.std.proofs.Common.{◌≡◌, ℕ, ◌==◌, false, List, [], ◌∷◌, ◌++◌, length, refl, true≢false}
use Rattle.phone_dialling.specs.Lettered.{before_group, behind_group, ruled_by, ruled_group}

-- there is such a group
pub ruled_some : (rule prefix t group : List ℕ) → (length group == 0) ≡ false →
    ruled_by rule prefix t group ≡ before_group t ++ (ruled_group rule prefix group ++ behind_group t)
ruled_some rule prefix t [] h = absurd (true≢false h)
ruled_some rule prefix t (c ∷ cs) h = refl
