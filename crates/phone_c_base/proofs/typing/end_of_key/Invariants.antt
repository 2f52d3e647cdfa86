use Rattle.std.proofs.Common.{◌≡◌, ◌+◌, ◌≤◌, length}
use Rattle.phone_typed.specs.Keys.{up_to_key}
use Rattle.phone_c_base.proofs.typing.end_of_key.Given as goal

abbrev pub invariant-loop-byte : goal.invariant-loop-byte
invariant-loop-byte l = (length l.rest ≤ length l.text) ×
    (length (up_to_key l.n l.text) + length l.rest ≡ length l.text + length (up_to_key l.left l.rest))

abbrev pub decreases-loop-byte : goal.decreases-loop-byte
decreases-loop-byte l = length l.rest
