-- A text that may be there, as its characters.
use Rattle.std.specs.Prelude.{ℕ, List, Option, chars, option_map}
use Rattle.std.specs.Borrow.{Bor}

-- the characters of a text that may be there
abbrev pub told : Option (Bor (List ℕ)) → Option (List ℕ)
told text = option_map (λ (t : Bor (List ℕ)). chars t.now) text
