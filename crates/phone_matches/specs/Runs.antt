-- Groups: the longest runs of characters of a set, in their order.
use Rattle.std.specs.Prelude.{ℕ, ◌&&◌, not, Bool, true, false, if◌then◌else◌, List, [], ◌∷◌, map}
use Rattle.std.specs.Prelude.{encode_utf8_all}
use Rattle.std.specs.Borrow.{Bor}
use Rattle.phone_chars.specs.Cuts.{front}

-- the runs in what follows a character that is of the set or isn't: one begins at each character of
-- the set behind one that isn't
abbrev pub runs_behind : (p : ℕ → Bool) → (is_within : Bool) → List ℕ → List (List ℕ)
runs_behind p is_within [] = []
runs_behind p is_within (c ∷ cs) =
    if p c && not is_within then front p (c ∷ cs) ∷ runs_behind p true cs
    else runs_behind p (p c) cs

-- the runs of a text
abbrev pub runs : (ℕ → Bool) → List ℕ → List (List ℕ)
runs p t = runs_behind p false t

-- they, each as its bytes
abbrev pub groups : (ℕ → Bool) → List ℕ → List (List ℕ)
groups p t = map encode_utf8_all (runs p t)

-- groups as the code holds them
abbrev pub told : List (Bor (List ℕ)) → List (List ℕ)
told gs = map (λ (g : Bor (List ℕ)). g.now) gs
