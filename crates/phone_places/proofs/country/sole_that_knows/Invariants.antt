use Rattle.std.proofs.Common.{◌≡◌, ◌++◌, filter}
use Rattle.std.specs.Option.{option_copied}
use Rattle.phone_places.proofs.Soles.{held}
use Rattle.phone_places.specs.Countries.{knows}
use Rattle.phone_plans.specs.Records.{has_code}
use Rattle.phone_places.proofs.country.sole_that_knows.Given as goal

abbrev pub invariant-loop-territory : goal.invariant-loop-territory
invariant-loop-territory l =
    filter (knows l.digits) (filter (has_code l.code) l.database) ≡ held (option_copied l.found) ++ filter (knows l.digits) l.territory-iterator
