use Rattle.std.proofs.Common.{◌≡◌, ◌++◌, drop, filter, map, Bor}
use Rattle.phone_records.specs.declared.loader.Format.{Format}
use Rattle.phone_keyed_parts.specs.Layouts.{leads}
use Rattle.phone_keyed_parts.proofs.laid.leading.Given as goal

abbrev pub invariant-loop-layout : goal.invariant-loop-layout
invariant-loop-layout l =
    filter (leads l.digits) (map (λ (f : Bor Format). f.now) l.all)
    ≡ map (λ (f : Bor Format). f.now) l.left.items ++ filter (leads l.digits) (map (λ (f : Bor Format). f.now) (drop l.layout-index l.all))
