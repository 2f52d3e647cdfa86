use Rattle.std.proofs.Common.{◌≡◌, List, ℕ, ◌++◌, chars, length}
use denote.Text.{Utf8}
use denote.Shadow.{shadow}
use Rattle.phone_parts.specs.Texts.{after_like}
use Rattle.phone_parts.proofs.fronts.strip_like.Given as goal

abbrev pub invariant-loop-w : goal.invariant-loop-w
invariant-loop-w l =
    shadow (Utf8 l.rest) × shadow (Utf8 l.wanted) × ((v : List ℕ) × (l.text ≡ v ++ l.rest))
    × (after_like (chars l.text) (chars l.word) ≡ after_like (chars l.rest) (chars l.wanted))

abbrev pub decreases-loop-w : goal.decreases-loop-w
decreases-loop-w l = length l.wanted
