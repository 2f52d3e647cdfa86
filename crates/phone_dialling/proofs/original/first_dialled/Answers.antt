use Rattle.std.proofs.Common.{ap, ◌∙◌}
use Rattle.std.proofs.lemmas.Str.{chars-nil}
use Rattle.phone_questions.specs.Letters.{diallable_only}
use Rattle.phone_dialling.specs.Original.{dialled_of}
use Rattle.phone_dialling.proofs.original.first_dialled.Goals as goal

pub returns-clause-first : goal.returns-clause-first
returns-clause-first c = c.loop-c.invariant.1 ∙ ap dialled_of c.in_default.ensures.cut ∙ ap diallable_only chars-nil
