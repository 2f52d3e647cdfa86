use Rattle.std.proofs.Common.{◌≡◌, List, ℕ, ◌++◌, [], ◌∷◌, chars, length}
use denote.Text.{Utf8}
use denote.Shadow.{shadow}
use Rattle.phone_matches_text.specs.Shapes.{within}
use Rattle.phone_matches_text.specs.Sets.{is_in}
use Rattle.phone_matches_text.proofs.shapes.passes_within.Given as goal

abbrev pub invariant-loop-left : goal.invariant-loop-left
invariant-loop-left g l = shadow (Utf8 l.rest) × (within (is_in l.set) l.most (g.T.Shape.passes l.then) (chars l.text) ≡ within (is_in l.set) l.left (g.T.Shape.passes l.then) (chars l.rest))

abbrev pub decreases-loop-left : goal.decreases-loop-left
decreases-loop-left g l = l.left
