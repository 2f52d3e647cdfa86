use Rattle.std.proofs.Common.{◌≡◌, ◌++◌, drop}
use Rattle.std.specs.List.{filter_map}
use Rattle.phone_library_text.specs.Letters.{value_of}
use Rattle.phone_library_text.proofs.letters.ascii_digits.Given as goal

abbrev pub invariant-loop-byte : goal.invariant-loop-byte
invariant-loop-byte l = filter_map value_of l.bytes ≡ l.digits.items ++ filter_map value_of (drop l.byte-index l.bytes)
