use Rattle.std.proofs.Common.{◌≡◌, replicate, string_bytes}
use Rattle.phone_library.proofs.queries.digits_of.Given as goal

abbrev pub invariant-loop-i : goal.invariant-loop-i
invariant-loop-i l = string_bytes l.digits ≡ replicate l._i 48
