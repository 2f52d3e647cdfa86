use Rattle.std.proofs.Common.{◌≡◌, false, take, chars, reverse}
use Rattle.phone_find.specs.Told.{all_told}
use Rattle.phone_find.specs.Walks.{fits_some}
use Rattle.phone_find.proofs.walks.fits_some.Given as goal

abbrev pub invariant-loop-rule : goal.invariant-loop-rule
invariant-loop-rule l =
    fits_some (all_told (take l.rule-index l.rules)) (reverse (chars l.before)) (chars l.from) ≡ false
