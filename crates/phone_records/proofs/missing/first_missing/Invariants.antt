use Rattle.std.proofs.Common.{◌≡◌, drop, map}
use Rattle.phone_records.specs.Missing.{first_given, missing_in}
use Rattle.phone_records.proofs.missing.first_missing.Given as goal

abbrev pub invariant-loop-record : goal.invariant-loop-record
invariant-loop-record l = first_given (map missing_in l.records) ≡ first_given (map missing_in (drop l.record-index l.records))
