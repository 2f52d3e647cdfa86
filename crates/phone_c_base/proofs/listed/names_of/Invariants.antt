use Rattle.std.proofs.Common.{◌≡◌, take}
use Rattle.std.specs.List.{flat_map}
use Rattle.phone_values.specs.Ids.{name}
use Rattle.phone_c_base.proofs.listed.names_of.Given as goal

abbrev pub invariant-loop-id : goal.invariant-loop-id
invariant-loop-id l = l.names.items ≡ flat_map name (take l.id-index l.ids)
