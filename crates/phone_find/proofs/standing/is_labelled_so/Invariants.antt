use Rattle.std.proofs.Common.{◌≡◌, false, take, chars}
use Rattle.std.specs.List.{list_any}
use Rattle.phone_find.specs.Shapes.{is_labelled}
use Rattle.phone_find.specs.Told.{all_told}
use Rattle.phone_find.proofs.standing.is_labelled_so.Given as goal

abbrev pub invariant-loop-label : goal.invariant-loop-label
invariant-loop-label l =
    list_any (is_labelled (chars l.text)) (all_told (take l.label-index l.many)) ≡ false
