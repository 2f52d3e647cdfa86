use Rattle.std.proofs.Common.{◌≡◌, ◌++◌, drop}
use Rattle.phone_chars.specs.Norm.{norm}
use Rattle.phone_chars.proofs.norm.digits_of_ascii.Given as goal

abbrev pub invariant-loop-byte : goal.invariant-loop-byte
invariant-loop-byte l = norm l.bytes ≡ l.digits.items ++ norm (drop l.byte-index l.bytes)
