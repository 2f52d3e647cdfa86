use Rattle.std.proofs.Common.{◌≡◌, List, ℕ, ◌++◌, [], ◌∷◌, chars, length}
use denote.Text.{Utf8}
use denote.Shadow.{shadow}
use Rattle.phone_matches_text.specs.Pieces.{trimmed}
use Rattle.phone_matches_text.proofs.pieces.trimmed.Given as goal

abbrev pub invariant-loop-front : goal.invariant-loop-front
invariant-loop-front l = shadow (Utf8 l.rest) × ((v : List ℕ) × (l.text ≡ l.rest ++ v)) × (trimmed (chars l.text) ≡ trimmed (chars l.rest))

abbrev pub decreases-loop-front : goal.decreases-loop-front
decreases-loop-front l = length l.rest
