use Rattle.std.proofs.Common.{◌≡◌, chars, length, reverse}
use denote.Text.{Utf8}
use denote.Shadow.{shadow}
use Rattle.phone_find.specs.Walks.{fits_place}
use Rattle.phone_find.proofs.walks.fits_place.Given as goal

abbrev pub invariant-loop-sign : goal.invariant-loop-sign
invariant-loop-sign l = shadow (Utf8 l.rest) × shadow (Utf8 l.wanted) ×
    (fits_place (chars l.rule) (reverse (chars l.before)) (chars l.from) ≡
    fits_place (chars l.wanted) (reverse (chars l.rest)) (chars l.from))

abbrev pub decreases-loop-sign : goal.decreases-loop-sign
decreases-loop-sign l = length l.wanted
