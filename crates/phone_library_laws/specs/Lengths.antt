-- Lists of lengths in ascending order.
use Rattle.std.specs.Prelude.{ℕ, ◌&&◌, nat_le, Bool, true, List, [], ◌∷◌}

-- none is below the one before it
abbrev pub is_ascending : List ℕ → Bool
is_ascending [] = true
is_ascending (l ∷ []) = true
is_ascending (l ∷ k ∷ ls) = nat_le l k && is_ascending (k ∷ ls)
