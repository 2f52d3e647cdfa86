use Rattle.std.proofs.Common.{◌≡◌, ◌++◌, drop, map}
use Rattle.phone_json.specs.Records.{metadata_of}
use Rattle.serde_json.specs.View.{view}
use Rattle.phone_json.proofs.build.records.Given as goal

abbrev pub invariant-loop-item : goal.invariant-loop-item
invariant-loop-item l =
    l.records.items ++ map metadata_of (map view (drop l.item-index l.item-items)) ≡ map metadata_of (map view l.item-items)
