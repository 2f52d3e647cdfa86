use Rattle.std.proofs.Common.{arith, sym, ◌∙◌}
use Rattle.phone_keyed_parts.proofs.Borders.{behind_first, match_end}
use Rattle.phone_keyed_parts.proofs.parting.sign_end.Goals as goal

pub returns-then-has_plus-clause-border : goal.returns-then-has_plus-clause-border
returns-then-has_plus-clause-border c = behind_first 43 c.args.keys.now c.utf8.keys (omega arith) (sym c.has_plus.ensures ∙ c.if-has_plus.true)

pub returns-in-Some-international_prefix_pattern-clause-border : goal.returns-in-Some-international_prefix_pattern-clause-border
returns-in-Some-international_prefix_pattern-clause-border c = match_end c.args.keys.now c.front_end.result c.front_end.ensures.border
