use Rattle.std.proofs.Common.{◌≡◌, take}
use Rattle.phone_arrow.proofs.offsets.wide.Given as goal

abbrev pub invariant-loop-offset : goal.invariant-loop-offset
invariant-loop-offset l = l.wide.items ≡ take l.offset-index l.offsets
