use Rattle.std.proofs.Common.{◌≤◌, length}
use Rattle.phone_compact.proofs.Numbers.{AddsTo, IsLeft}
use Rattle.phone_compact.proofs.reader.Reader.number.Given as goal

abbrev pub invariant-loop-byte : goal.invariant-loop-byte
invariant-loop-byte l = record {
  small : l.number ≤ l.fn.greatest;
  adds : AddsTo l.fn.self l.number l.self;
  left : IsLeft l.fn.self l.number l.self;
}

abbrev pub decreases-loop-byte : goal.decreases-loop-byte
decreases-loop-byte l = length l.self
