use Rattle.std.proofs.Common.{◌≡◌, false, take, chars}
use Rattle.std.specs.List.{list_any}
use Rattle.phone_find.specs.Told.{all_told}
use Rattle.phone_find.specs.Walks.{fits}
use Rattle.phone_find.proofs.dates.begins_one.Given as goal

abbrev pub invariant-loop-signs : goal.invariant-loop-signs
invariant-loop-signs l =
    list_any (λ d. fits d (chars l.text)) (all_told (take l.signs-index l.many)) ≡ false
