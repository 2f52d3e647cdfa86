use Rattle.std.proofs.Common.{◌≡◌, ◌++◌, drop, map}
use Rattle.std.specs.List.{filter_map}
use Rattle.phone_json.specs.Fields.{as_small}
use Rattle.serde_json.specs.View.{view}
use Rattle.phone_json.proofs.build.numbers_at.Given as goal

abbrev pub invariant-loop-item : goal.invariant-loop-item
invariant-loop-item l =
    l.numbers.items ++ filter_map as_small (map view (drop l.item-index l.item-items)) ≡ filter_map as_small (map view l.item-items)
