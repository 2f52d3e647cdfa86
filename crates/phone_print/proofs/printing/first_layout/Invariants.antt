use Rattle.std.proofs.Common.{◌≡◌, drop}
use Rattle.std.specs.List.{find}
use Rattle.phone_print.specs.Layouts.{is_layout_by}
use Rattle.phone_print.proofs.printing.first_layout.Given as goal

abbrev pub invariant-loop-layout : goal.invariant-loop-layout
invariant-loop-layout l = find (is_layout_by l.rules l.digits) l.layouts ≡ find (is_layout_by l.rules l.digits) (drop l.layout-index l.layouts)
