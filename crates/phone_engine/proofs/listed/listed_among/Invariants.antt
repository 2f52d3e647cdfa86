use Rattle.std.proofs.Common.{◌≡◌, ◌++◌, drop, filter}
use Rattle.phone_engine.specs.Listed.{has_region}
use Rattle.phone_engine.proofs.listed.listed_among.Given as goal

abbrev pub invariant-loop-id : goal.invariant-loop-id
invariant-loop-id l =
    let listed = has_region l.database in
    l.found.items ++ filter listed (drop l.id-index l.ids) ≡ filter listed l.ids
