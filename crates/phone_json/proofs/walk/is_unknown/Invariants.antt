use Rattle.std.proofs.Common.{◌≡◌, drop, map}
use Rattle.phone_json.specs.Faults.{is_unknown}
use Rattle.phone_json.specs.Told.{shown}
use Rattle.phone_json.proofs.walk.is_unknown.Given as goal

abbrev pub invariant-loop-name : goal.invariant-loop-name
invariant-loop-name l = is_unknown (map shown l.known) l.key ≡ is_unknown (map shown (drop l.name-index l.known)) l.key
