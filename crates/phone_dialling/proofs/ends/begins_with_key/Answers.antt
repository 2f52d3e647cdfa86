use Rattle.std.proofs.Common.{ℕ, List, chars, ap, sym, ◌∙◌}
use Rattle.std.proofs.lemmas.Str.{chars-nil}
use Rattle.phone_parts.specs.Texts.{begins}
use Rattle.phone_dialling.specs.Keys.{has_key}
use Rattle.phone_dialling.proofs.ends.begins_with_key.Goals as goal

pub returns-in-None : goal.returns-in-None
returns-in-None c = sym (ap (λ (t : List ℕ). begins has_key (chars t)) c.in-None.ensures.cut ∙ ap (begins has_key) chars-nil)
