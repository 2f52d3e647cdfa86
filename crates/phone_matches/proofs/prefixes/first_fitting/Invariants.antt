use Rattle.std.proofs.Common.{◌≡◌, drop}
use Rattle.std.specs.List.{find}
use Rattle.phone_matches.specs.Prefixes.{fits}
use Rattle.phone_matches.proofs.prefixes.first_fitting.Given as goal

abbrev pub invariant-loop-layout : goal.invariant-loop-layout
invariant-loop-layout l = find (fits l.digits) l.layouts ≡ find (fits l.digits) (drop l.layout-index l.layouts)
