use Rattle.std.proofs.Common.{◌≡◌, List, ℕ, ◌++◌, [], ◌∷◌, chars, length}
use denote.Text.{Utf8}
use denote.Shadow.{shadow}
use Rattle.phone_library_text.specs.Scans.{after_alike}
use Rattle.phone_matches_text.proofs.extension.strip_alike.Given as goal

abbrev pub invariant-loop-w : goal.invariant-loop-w
invariant-loop-w l = shadow (Utf8 l.rest) × shadow (Utf8 l.wanted) × ((v : List ℕ) × (l.text ≡ v ++ l.rest))
    × (after_alike (chars l.text) (chars l.word) ≡ after_alike (chars l.rest) (chars l.wanted))

abbrev pub decreases-loop-w : goal.decreases-loop-w
decreases-loop-w l = length l.wanted
