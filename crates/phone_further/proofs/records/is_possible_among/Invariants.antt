use Rattle.std.proofs.Common.{◌≡◌, drop, map}
use Rattle.std.specs.List.{list_any}
use Rattle.std.specs.Option.{option_copied}
use Rattle.phone_further.specs.ShortRecords.{is_possible_by}
use Rattle.phone_further.proofs.records.is_possible_among.Given as goal

abbrev pub invariant-loop-row : goal.invariant-loop-row
invariant-loop-row l =
    let is = is_possible_by l.digits in
    list_any is (map option_copied l.records) ≡ list_any is (map option_copied (drop l.row-index l.records))
