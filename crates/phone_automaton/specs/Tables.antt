-- What a table alone tells of a pattern.
use Rattle.std.specs.Prelude.{ℕ, List}
use Rattle.regex_hir.specs.Find.{find_str}
use Rattle.regex_hir.specs.Re.{Re}
use Rattle.phone_automaton.specs.Digits.{TellsFront}
use Rattle.phone_automaton.specs.Parts.{AreFrontCells}

-- the cells of the steps over digits, and those of the groups of matches at the front
pub record FrontCells : Type 0 where
  pub steps : List ℕ
  pub front : List ℕ

-- of each text of digits the steps tell where the tree's first match ends that begins at the front,
-- and the other cells, with that end put in, are its groups
abbrev pub Tells : Re → FrontCells → Type 0
Tells re t = TellsFront (λ hay. find_str re hay 0) t.steps × AreFrontCells re t.front
