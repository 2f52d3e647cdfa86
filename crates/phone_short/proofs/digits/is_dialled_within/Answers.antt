use Rattle.std.proofs.Common.{ap, sym, ◌∙◌}
use Rattle.std.proofs.lemmas.Str.{chars-nil}
use Rattle.std.specs.Str.{chars}
use Rattle.phone_chars.specs.Characters.{is_nd}
use Rattle.phone_parts.specs.Texts.{begins}
use Rattle.phone_short.proofs.digits.is_dialled_within.Goals as goal

pub returns-in-None : goal.returns-in-None
returns-in-None c =
    sym (ap (begins is_nd) (sym c.after_run.ensures.rest) ∙ ap (λ t. begins is_nd (chars t)) c.in-None.ensures.cut ∙ ap (begins is_nd) chars-nil)

pub returns-in-Some : goal.returns-in-Some
returns-in-Some c =
    c.is_nd.ensures ∙ sym (ap (begins is_nd) (sym c.after_run.ensures.rest ∙ c.in-Some.ensures.read))
