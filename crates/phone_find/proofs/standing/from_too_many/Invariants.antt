use Rattle.std.proofs.Common.{◌≡◌, List, ℕ, ◌++◌, chars, length}
use denote.Text.{Utf8}
use denote.Shadow.{shadow}
use Rattle.phone_find.proofs.Few.{IsBehindFew}
use Rattle.phone_find.proofs.standing.from_too_many.Given as goal

abbrev pub invariant-loop-c : goal.invariant-loop-c
invariant-loop-c l = shadow (Utf8 l.rest) × ((v : List ℕ) × (l.text ≡ v ++ l.rest)) ×
    IsBehindFew (chars l.text) (chars l.rest) l.left

abbrev pub decreases-loop-c : goal.decreases-loop-c
decreases-loop-c l = length l.rest
