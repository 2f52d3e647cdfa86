use Rattle.std.proofs.Common.{ap, sym, ◌∙◌}
use Rattle.std.proofs.lemmas.Str.{chars-nil}
use Rattle.std.specs.Str.{chars}
use Rattle.phone_dialling.specs.Abroad.{is_tail}
use Rattle.phone_dialling.proofs.abroad.is_tail.Goals as goal

pub returns-in-None : goal.returns-in-None
returns-in-None c = sym (ap (λ t. is_tail (chars t)) c.in-None.ensures.cut ∙ ap is_tail chars-nil)
