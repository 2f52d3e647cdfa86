use Rattle.std.proofs.Common.{◌≡◌, map, None, option_map}
use Rattle.std.specs.List.{filter, fold}
use Rattle.serde_json.specs.View.{members_view}
use Rattle.phone_json.specs.Faults.{is_unknown, keys_in, lesser}
use Rattle.phone_json.specs.Told.{shown}
use Rattle.phone_json.proofs.walk.least_unknown.Given as goal

abbrev pub invariant-loop-key : goal.invariant-loop-key
invariant-loop-key l =
    let unknown = is_unknown (map shown l.known) in
    fold lesser (option_map shown l.least) (filter unknown (keys_in (members_view l.key-iterator)))
    ≡ fold lesser None (filter unknown (keys_in (members_view l.initial.key-iterator)))
