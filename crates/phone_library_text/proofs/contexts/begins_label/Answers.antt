use Rattle.std.proofs.Common.{ap, sym, ◌∙◌}
use Rattle.std.proofs.lemmas.Str.{chars-nil}
use Rattle.std.specs.Str.{chars}
use Rattle.phone_library_text.specs.Contexts.{is_alphanumeric}
use Rattle.phone_parts.specs.Texts.{begins}
use Rattle.phone_library_text.proofs.contexts.begins_label.Goals as goal

pub returns-in-None : goal.returns-in-None
returns-in-None c = sym (ap (λ t. begins is_alphanumeric (chars t)) c.in-None.ensures.cut ∙ ap (begins is_alphanumeric) chars-nil)
