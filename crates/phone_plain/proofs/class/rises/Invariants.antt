use Rattle.std.proofs.Common.{◌≡◌, drop}
use Rattle.regex_class.specs.Ranges.{rises_from}
use Rattle.phone_plain.proofs.class.rises.Given as goal

abbrev pub invariant-loop-i : goal.invariant-loop-i
invariant-loop-i l = rises_from 0 l.ranges ≡ rises_from l.least (drop l.i l.ranges)
