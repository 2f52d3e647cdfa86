use Rattle.std.proofs.Common.{sym, ◌∙◌}
use Rattle.phone_keyed_parts.proofs.Borders.{behind_trunk_one}
use Rattle.phone_keyed_parts.proofs.parting.prefix_length_of.Goals as goal

pub returns-then-has_trunk_one-clause-border : goal.returns-then-has_trunk_one-clause-border
returns-then-has_trunk_one-clause-border c =
    behind_trunk_one c.args.m.now c.args.digits.now c.utf8.digits (sym c.has_trunk_one.ensures ∙ c.if-has_trunk_one.true)
