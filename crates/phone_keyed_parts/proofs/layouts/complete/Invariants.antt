use Rattle.std.proofs.Common.{◌≡◌, drop, map, Bor}
use Rattle.phone_records.specs.declared.loader.Format.{Format}
use Rattle.phone_keyed_parts.specs.Layouts.{complete}
use Rattle.phone_keyed_parts.proofs.layouts.complete.Given as goal

abbrev pub invariant-loop-layout : goal.invariant-loop-layout
invariant-loop-layout l =
    complete l.line l.keys l.is_spaced_before (map (λ (f : Bor Format). f.now) l.left)
    ≡ complete l.line l.keys l.spaced (map (λ (f : Bor Format). f.now) (drop l.layout-index l.left))
