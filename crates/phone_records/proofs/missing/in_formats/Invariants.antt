use Rattle.std.proofs.Common.{◌≡◌, drop, map}
use Rattle.phone_records.specs.Missing.{first_given, missing_in_format}
use Rattle.phone_records.proofs.missing.in_formats.Given as goal

abbrev pub invariant-loop-format : goal.invariant-loop-format
invariant-loop-format l = first_given (map missing_in_format l.formats) ≡ first_given (map missing_in_format (drop l.format-index l.formats))
