use Rattle.std.proofs.Common.{◌≡◌, drop, map}
use Rattle.phone_records.specs.Missing.{first_given}
use Rattle.phone_typed.specs.Typed.{complete_text}
use Rattle.phone_typed.proofs.layouts.first_complete.Given as goal

abbrev pub invariant-loop-layout : goal.invariant-loop-layout
invariant-loop-layout l =
    first_given (map (complete_text l.m l.mode l.national l.keys) l.layouts) ≡ first_given (map (complete_text l.m l.mode l.national l.keys) (drop l.layout-index l.layouts))
