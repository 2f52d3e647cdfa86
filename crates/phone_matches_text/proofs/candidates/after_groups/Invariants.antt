use Rattle.std.proofs.Common.{◌≡◌, List, ℕ, ◌++◌, [], ◌∷◌, chars, length}
use denote.Text.{Utf8}
use denote.Shadow.{shadow}
use Rattle.phone_matches_text.specs.Candidates.{after_groups}
use Rattle.phone_matches_text.proofs.candidates.after_groups.Given as goal

abbrev pub invariant-loop-left : goal.invariant-loop-left
invariant-loop-left l = shadow (Utf8 l.rest) × ((v : List ℕ) × (l.text ≡ v ++ l.rest)) × (after_groups l.most (chars l.text) ≡ after_groups l.left (chars l.rest))

abbrev pub decreases-loop-left : goal.decreases-loop-left
decreases-loop-left l = l.left
