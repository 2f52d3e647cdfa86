use Rattle.std.proofs.Common.{ap, sym, ◌∙◌}
use Rattle.std.proofs.lemmas.Str.{chars-nil}
use Rattle.std.specs.Str.{chars}
use Rattle.phone_parts.specs.Texts.{ends}
use Rattle.phone_parts.proofs.Cores.{ends-push}
use Rattle.phone_library_text.specs.Contexts.{is_alphanumeric}
use Rattle.phone_library_text.proofs.contexts.ends_label.Goals as goal

pub returns-in-Some : goal.returns-in-Some
returns-in-Some c =
    c.is_alphanumeric.ensures
    ∙ sym (ap (ends is_alphanumeric) c.in-Some.ensures.read ∙ ends-push is_alphanumeric (chars c.in-Some.field-0-0.now) c.in-Some.c)

pub returns-in-None : goal.returns-in-None
returns-in-None c = sym (ap (λ t. ends is_alphanumeric (chars t)) c.in-None.ensures.cut ∙ ap (ends is_alphanumeric) chars-nil)
