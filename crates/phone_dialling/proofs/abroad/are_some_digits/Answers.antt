use Rattle.std.proofs.Common.{ap, sym, ◌∙◌}
use Rattle.std.proofs.lemmas.Str.{chars-nil}
use Rattle.std.specs.Str.{chars}
use Rattle.phone_dialling.specs.Abroad.{are_some_digits}
use Rattle.phone_dialling.proofs.abroad.are_some_digits.Goals as goal

pub returns-in-None : goal.returns-in-None
returns-in-None c = sym (ap (λ t. are_some_digits (chars t)) c.in-None.ensures.cut ∙ ap are_some_digits chars-nil)
