use Rattle.std.proofs.Common.{Some, ap, rules, sym, ◌∙◌}
use Rattle.phone_further.proofs.rows.Rows.take_of.Goals as goal

pub returns-clause-row : goal.returns-clause-row
returns-clause-row c = (sym c.in_ok-own.ensures.region ∙ ap Some (c.is_same.ensures.0 c.if-not-is_same.false), search rules)
