use Rattle.std.proofs.Common.{◌≡◌, drop, map, option_map}
use Rattle.phone_records.specs.Missing.{first_given}
use Rattle.phone_json.specs.Told.{refusal_of}
use Rattle.phone_json.proofs.walk.first_of.Given as goal

abbrev pub invariant-loop-fault : goal.invariant-loop-fault
invariant-loop-fault l =
    first_given (map (option_map refusal_of) l.faults) ≡ first_given (map (option_map refusal_of) (drop l.fault-index l.faults))
