use Rattle.std.proofs.Common.{◌≡◌, length}
use Rattle.phone_typed.specs.Keys.{shows}
use Rattle.phone_typed.proofs.keys.shows.Given as goal

abbrev pub invariant-loop-byte : goal.invariant-loop-byte
invariant-loop-byte l = shows l.keys l.text ≡ shows l.left l.rest

abbrev pub decreases-loop-byte : goal.decreases-loop-byte
decreases-loop-byte l = length l.rest
