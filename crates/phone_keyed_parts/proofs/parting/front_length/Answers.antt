use Rattle.std.proofs.Common.{sym, ◌∙◌}
use Rattle.std.proofs.lemmas.Str.{IsCharBoundary-start}
use Rattle.phone_keyed_parts.proofs.Borders.{behind_front}
use Rattle.phone_keyed_parts.proofs.parting.front_length.Goals as goal

pub returns-then-has_front-clause-border : goal.returns-then-has_front-clause-border
returns-then-has_front-clause-border c =
    behind_front c.args.prefix.now c.args.digits.now c.utf8.prefix c.utf8.digits (sym c.has_front.ensures ∙ c.if-has_front.true)

pub returns-clause-border : goal.returns-clause-border
returns-clause-border c = IsCharBoundary-start c.args.digits.now c.utf8.digits
