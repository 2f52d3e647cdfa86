use Rattle.std.proofs.Common.{◌≡◌}
use Rattle.phone_arrow.specs.Bits.{first_bytes}
use Rattle.phone_arrow.proofs.bits.bitmap.Given as goal

abbrev pub invariant-loop-k : goal.invariant-loop-k
invariant-loop-k l = l.bits.items ≡ first_bytes l.flags l.k
