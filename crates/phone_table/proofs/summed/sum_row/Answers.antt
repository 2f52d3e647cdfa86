use Rattle.std.proofs.Common.{sym, subst, true≢false, ◌∙◌}
use Rattle.std.proofs.lemmas.Result.{on_ok_weaker}
use Rattle.phone_table.specs.Summaries.{CountsRow}
use Rattle.phone_table.proofs.summed.sum_row.Goals as goal

pub returns-then-is_summed : goal.returns-then-is_summed
returns-then-is_summed c = on_ok_weaker c.add.result
    (λ h. record { summed = λ on. subst (λ row. CountsRow c.args.summary.now row c.add.new.self) c.told_of.ensures h })
    c.add.ensures

pub returns-else-is_summed : goal.returns-else-is_summed
returns-else-is_summed c = record { summed = λ on. absurd (true≢false (sym on ∙ c.if-is_summed.false)) }
