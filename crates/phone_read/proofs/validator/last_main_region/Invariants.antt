use Rattle.std.proofs.Common.{◌≡◌, length}
use Rattle.phone_read.specs.Origins.{latest_main}
use Rattle.phone_read.specs.Regions.{is_of_last}
use Rattle.phone_read.proofs.validator.last_main_region.Given as goal

abbrev pub invariant-loop-pair : goal.invariant-loop-pair
invariant-loop-pair l = latest_main (is_of_last l.text) l.fn.all ≡ latest_main (is_of_last l.text) l.rest

abbrev pub decreases-loop-pair : goal.decreases-loop-pair
decreases-loop-pair l = length l.rest
