use Rattle.std.proofs.Common.{◌≡◌, drop}
use Rattle.phone_arrow.specs.Texts.{are_ascending}
use Rattle.phone_arrow.proofs.texts.are_ascending.Given as goal

abbrev pub invariant-loop-offset : goal.invariant-loop-offset
invariant-loop-offset l =
    are_ascending 0 l.offsets l.len ≡ are_ascending l.before (drop l.offset-index l.offsets) l.len
