use Rattle.std.proofs.Common.{◌≡◌, length}
use Rattle.phone_keyed_parts.specs.Layouts.{has_keys}
use Rattle.phone_keyed_parts.proofs.layouts.has_keys.Given as goal

abbrev pub invariant-loop-byte : goal.invariant-loop-byte
invariant-loop-byte l = has_keys l.text l.keys ≡ has_keys l.rest l.left

abbrev pub decreases-loop-byte : goal.decreases-loop-byte
decreases-loop-byte l = length l.rest
