use Rattle.std.proofs.Common.{◌≡◌, chars, length}
use denote.Text.{Utf8}
use denote.Shadow.{shadow}
use Rattle.phone_find.specs.Walks.{after_signs}
use Rattle.phone_find.proofs.walks.after_signs.Given as goal

abbrev pub invariant-loop-sign : goal.invariant-loop-sign
invariant-loop-sign l = shadow (Utf8 l.rest) × shadow (Utf8 l.wanted) ×
    (after_signs (chars l.signs) (chars l.text) ≡ after_signs (chars l.wanted) (chars l.rest))

abbrev pub decreases-loop-sign : goal.decreases-loop-sign
decreases-loop-sign l = length l.wanted
