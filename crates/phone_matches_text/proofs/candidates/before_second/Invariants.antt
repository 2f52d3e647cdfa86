use Rattle.std.proofs.Common.{◌≡◌, List, ℕ, ◌++◌, [], ◌∷◌, chars, length}
use denote.Text.{Utf8}
use denote.Shadow.{shadow}
use Rattle.phone_matches_text.specs.Candidates.{before_second}
use Rattle.phone_matches_text.proofs.candidates.before_second.Given as goal

abbrev pub invariant-loop-after : goal.invariant-loop-after
invariant-loop-after l = shadow (Utf8 l.rest) × ((v : List ℕ) × (l.text ≡ v ++ l.rest)) × ((passed : List ℕ) × (chars l.text ≡ passed ++ chars l.rest) × (before_second (chars l.text) ≡ passed ++ before_second (chars l.rest)))

abbrev pub decreases-loop-after : goal.decreases-loop-after
decreases-loop-after l = length l.rest
