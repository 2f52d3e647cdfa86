use Rattle.std.proofs.Common.{◌≡◌, ◌++◌}
use Rattle.phone_compact.specs.Forms.{number_written}
use Rattle.phone_compact.proofs.values.write_number.Given as goal

abbrev pub invariant-loop-rest : goal.invariant-loop-rest
invariant-loop-rest l =
    l.out.items ++ number_written l.rest ≡ l.fn.out.items ++ number_written l.fn.number

abbrev pub decreases-loop-rest : goal.decreases-loop-rest
decreases-loop-rest l = l.rest
