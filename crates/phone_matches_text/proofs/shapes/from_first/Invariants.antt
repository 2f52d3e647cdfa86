use Rattle.std.proofs.Common.{◌≡◌, List, ℕ, ◌++◌, [], ◌∷◌, chars, length}
use denote.Text.{Utf8}
use denote.Shadow.{shadow}
use Rattle.phone_matches_text.specs.Shapes.{from_first}
use Rattle.phone_matches_text.proofs.shapes.from_first.Given as goal

abbrev pub invariant-loop-after : goal.invariant-loop-after
invariant-loop-after g l = shadow (Utf8 l.rest) × ((v : List ℕ) × (l.text ≡ v ++ l.rest)) × (from_first (g.T.Shape.passes l.shape) (chars l.text) ≡ from_first (g.T.Shape.passes l.shape) (chars l.rest))

abbrev pub decreases-loop-after : goal.decreases-loop-after
decreases-loop-after g l = length l.rest
