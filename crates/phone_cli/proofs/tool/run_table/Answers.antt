use Rattle.std.proofs.Common.{inl, inr, sym, ◌∙◌}
use Rattle.phone_cli.proofs.AnswerLemmas.{table_by}
use Rattle.phone_cli.proofs.tool.run_table.Goals as goal

pub returns-in-0 : goal.returns-in-0
returns-in-0 g c =
    let whole = sym c.in-0.is ∙ c.run.ensures.3 in (
      c.run.ensures.0,
      c.run.ensures.1.totals,
      table_by _ _ c.args.job.now _ _ c.run.ensures.1 _ c.run.ensures.2,
      elim c.sum_up.ensures [
        | inl well ↦ inl (well ∙ whole)
        | inr (one, named) ↦ inr (sym whole, one, named)
      ],
    )

pub returns-in_default : goal.returns-in_default
returns-in_default g c = (
  c.run.ensures.0,
  c.run.ensures.1.totals,
  table_by _ _ c.args.job.now _ _ c.run.ensures.1 _ c.run.ensures.2,
  inl c.run.ensures.3,
)
