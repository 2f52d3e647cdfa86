use Rattle.std.proofs.Common.{◌≡◌, map, take}
use Rattle.phone_places.specs.Nearest.{measured_of}
use Rattle.phone_places.specs.declared.nearest.Measured.{Measured}
use Rattle.phone_places.proofs.nearest.measure_all.Given as goal

abbrev pub invariant-loop-entry : goal.invariant-loop-entry
invariant-loop-entry l = map (λ (m : Measured). (m.entry.now, m.far)) l.all.items ≡ measured_of (take l.entry-index l.entries) l.text
