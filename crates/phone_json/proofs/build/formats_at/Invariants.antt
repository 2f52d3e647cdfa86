use Rattle.std.proofs.Common.{◌≡◌, ◌++◌, drop, map}
use Rattle.phone_json.specs.Records.{format_of}
use Rattle.serde_json.specs.View.{view}
use Rattle.phone_json.proofs.build.formats_at.Given as goal

abbrev pub invariant-loop-item : goal.invariant-loop-item
invariant-loop-item l =
    l.formats.items ++ map format_of (map view (drop l.item-index l.item-items)) ≡ map format_of (map view l.item-items)
