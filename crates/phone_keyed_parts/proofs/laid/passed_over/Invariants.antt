use Rattle.std.proofs.Common.{◌≡◌, drop, map, Bor}
use Rattle.phone_records.specs.declared.loader.Format.{Format}
use Rattle.phone_keyed_parts.specs.Layouts.{first_serving}
use Rattle.phone_keyed_parts.proofs.laid.passed_over.Given as goal

abbrev pub invariant-loop-layout : goal.invariant-loop-layout
invariant-loop-layout l = record {
  count : l.n ≡ l.layout-index;
  same : first_serving l.digits l.pattern (map (λ (f : Bor Format). f.now) l.all)
      ≡ first_serving l.digits l.pattern (map (λ (f : Bor Format). f.now) (drop l.layout-index l.all));
}
