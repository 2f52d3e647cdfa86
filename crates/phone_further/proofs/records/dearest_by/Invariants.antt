use Rattle.std.proofs.Common.{◌≡◌, ◌++◌, drop, map}
use Rattle.std.specs.Option.{option_copied}
use Rattle.phone_further.specs.ShortNumbers.{dearest_of, held}
use Rattle.phone_further.specs.ShortRecords.{cost_by}
use Rattle.phone_further.proofs.records.dearest_by.Given as goal

abbrev pub invariant-loop-row : goal.invariant-loop-row
invariant-loop-row l =
    let cost = cost_by l.digits in
    dearest_of (map cost (map option_copied l.records)) ≡ dearest_of (held l.dearest ++ map cost (map option_copied (drop l.row-index l.records)))
