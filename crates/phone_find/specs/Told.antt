-- Texts that the code holds, as their characters.
use Rattle.std.specs.Prelude.{ℕ, List, Option, chars, map, option_map}
use Rattle.std.specs.Borrow.{Bor}

-- the characters of a text that may be there
abbrev pub told : Option (Bor (List ℕ)) → Option (List ℕ)
told text = option_map (λ (t : Bor (List ℕ)). chars t.now) text

-- the characters of each text
abbrev pub all_told : List (Bor (List ℕ)) → List (List ℕ)
all_told texts = map (λ (t : Bor (List ℕ)). chars t.now) texts
