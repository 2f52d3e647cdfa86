use Rattle.std.proofs.Common.{◌≡◌, drop, map}
use Rattle.std.specs.Option.{option_copied}
use Rattle.phone_further.specs.ShortRecords.{first_code}
use Rattle.phone_further.proofs.records.first_code.Given as goal

abbrev pub invariant-loop-row : goal.invariant-loop-row
invariant-loop-row l =
    first_code l.digits (map option_copied l.records) ≡ first_code l.digits (map option_copied (drop l.row-index l.records))
