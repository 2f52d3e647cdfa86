use Rattle.std.proofs.Common.{sym, ◌∙◌}
use Rattle.phone_plans.specs.CodeLookUps.{is_main}
use Rattle.phone_plans.proofs.LastItems.{find-reverse-last}
use Rattle.phone_plans.proofs.plans.last_main.Goals as goal

pub returns-then-is_main_country_for_code : goal.returns-then-is_main_country_for_code
returns-then-is_main_country_for_code c =
    sym (c.loop-territory.invariant ∙ find-reverse-last is_main _ _ c.in-Some.territory.now _ c.in-Some.ensures (sym c.if-is_main_country_for_code.true ∙ c.is_main_country_for_code.ensures))

pub loop-territory-preserved : goal.loop-territory-preserved
loop-territory-preserved c =
    c.loop-territory.invariant ∙ find-reverse-last is_main _ _ c.in-Some.territory.now _ c.in-Some.ensures (sym c.if-is_main_country_for_code.false ∙ c.is_main_country_for_code.ensures)
