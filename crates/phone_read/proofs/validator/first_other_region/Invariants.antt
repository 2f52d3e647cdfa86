use Rattle.std.proofs.Common.{◌≡◌}
use Rattle.phone_read.specs.Origins.{first_other}
use Rattle.phone_read.specs.Regions.{is_of_last}
use Rattle.phone_read.proofs.validator.first_other_region.Given as goal

abbrev pub invariant-loop-pair : goal.invariant-loop-pair
invariant-loop-pair l = first_other (is_of_last l.text) l.fn.all ≡ first_other (is_of_last l.text) l.pair-iterator
