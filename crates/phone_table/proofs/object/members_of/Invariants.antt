use Rattle.std.proofs.Common.{◌≡◌, map}
use Rattle.std.specs.Map.Iter.{deref_pair}
use Rattle.serde_json.specs.View.{members_view}
use Rattle.phone_table.specs.Objects.{members_of}
use Rattle.phone_table.proofs.object.members_of.Given as goal

-- the members are those of the entries that were gone over
abbrev pub invariant-loop-text : goal.invariant-loop-text
invariant-loop-text l =
    members_view l.members.entries ≡ members_of (map deref_pair l.yielded)
