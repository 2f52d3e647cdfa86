use Rattle.std.proofs.Common.{◌≡◌, length}
use Rattle.phone_index.specs.Orders.{AreStarts}
use Rattle.phone_index.proofs.grouped.starts_of.Given as goal

abbrev pub invariant-loop-code : goal.invariant-loop-code
invariant-loop-code l = record { are : AreStarts l.entries l.starts.items; many : length l.starts.items ≡ l.code }
