-- Where a part stands in a text. Both are lists of bytes.
use Rattle.std.specs.Prelude.{ℕ, nat_eq, Bool, if◌then◌else◌, List, [], ◌∷◌, drop, length}
use Rattle.std.specs.Prelude.{Option, None, Some, is_some, option_map}
use Rattle.std.specs.List.{starts_with}
use Rattle.std.specs.Option.{option_and_then}

-- the text from the first place of a part on; none where the part stands nowhere in it
abbrev pub from_part : (part : List ℕ) → List ℕ → Option (List ℕ)
from_part part [] = if starts_with nat_eq [] part then Some [] else None
from_part part (c ∷ cs) =
    if starts_with nat_eq (c ∷ cs) part then Some (c ∷ cs) else from_part part cs

-- a part stands somewhere in a text
abbrev pub contains : (part : List ℕ) → List ℕ → Bool
contains part t = is_some (from_part part t)

-- what follows a part's first place
abbrev pub behind_part : (part : List ℕ) → List ℕ → Option (List ℕ)
behind_part part t = option_map (drop (length part)) (from_part part t)

-- what follows all of these parts, each at its first place behind the one before it
abbrev pub behind_all : List (List ℕ) → List ℕ → Option (List ℕ)
behind_all [] t = Some t
behind_all (part ∷ parts) t = option_and_then (behind_all parts) (behind_part part t)
