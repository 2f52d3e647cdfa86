use Rattle.std.proofs.Common.{◌≡◌, List, ℕ, ◌++◌, [], ◌∷◌, chars, length}
use denote.Text.{Utf8}
use denote.Shadow.{shadow}
use Rattle.phone_matches_text.specs.Shapes.{somewhere}
use Rattle.phone_matches_text.proofs.shapes.somewhere.Given as goal

abbrev pub invariant-loop-after : goal.invariant-loop-after
invariant-loop-after g l = shadow (Utf8 l.rest) × (somewhere (g.T.Shape.passes l.shape) (chars l.text) ≡ somewhere (g.T.Shape.passes l.shape) (chars l.rest))

abbrev pub decreases-loop-after : goal.decreases-loop-after
decreases-loop-after g l = length l.rest
