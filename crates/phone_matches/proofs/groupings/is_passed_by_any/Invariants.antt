use Rattle.std.proofs.Common.{◌≡◌, ◌&&◌, drop}
use Rattle.std.specs.List.{list_any}
use Rattle.phone_matches.specs.Layouts.{groups_by}
use Rattle.phone_territory.specs.Records.{is_led}
use Rattle.phone_matches.proofs.groupings.is_passed_by_any.Given as goal

abbrev pub invariant-loop-layout : goal.invariant-loop-layout
invariant-loop-layout g l =
    list_any (λ f. is_led l.digits f && g.T.Test.passes l.test (groups_by l.digits f)) l.layouts
    ≡ list_any (λ f. is_led l.digits f && g.T.Test.passes l.test (groups_by l.digits f)) (drop l.layout-index l.layouts)
