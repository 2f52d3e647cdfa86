use Rattle.std.proofs.Common.{arith, ap, sym, ◌∙◌}
use Rattle.phone_matches.proofs.Lists.{end_as_some}
use Rattle.phone_matches.specs.Exact.{are_groups}
use Rattle.phone_matches.specs.Runs.{told}
use Rattle.phone_matches.proofs.exact.end_as.Goals as goal

pub returns-in-Some : goal.returns-in-Some
returns-in-Some c =
    c.are_groups.ensures
    ∙ ap (λ rs. are_groups c.in-Some.first.now.now (told c.in-Some.others.now) (told rs)) c.without_first.ensures
    ∙ sym (end_as_some c.args.groups.now c.args.runs.now c.in-Some.first.now c.in-Some.others.now c.saturating_sub-at.result c.in-Some.ensures.cases.0
    (omega (arith, c.saturating_sub-at.ensures)))
