use Rattle.std.proofs.Common.{◌≡◌, ◌++◌, take}
use Rattle.phone_territory.proofs.alike.are_same.Given as goal

abbrev pub invariant-loop-item : goal.invariant-loop-item
invariant-loop-item g l = l.others ≡ take l.item-index l.items ++ l.rest
