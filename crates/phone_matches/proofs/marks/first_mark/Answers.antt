use Rattle.std.proofs.Common.{chars, ap, ◌∙◌}
use Rattle.std.proofs.lemmas.Str.{chars-nil}
use Rattle.phone_matches.specs.Marks.{announced}
use Rattle.phone_matches.proofs.marks.first_mark.Goals as goal

pub returns-clause-read : goal.returns-clause-read
returns-clause-read c = c.loop-c.invariant.1 ∙ ap announced (ap chars c.in_default.ensures.cut ∙ chars-nil)
