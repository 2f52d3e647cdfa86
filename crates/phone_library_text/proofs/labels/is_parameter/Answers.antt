use Rattle.std.proofs.Common.{◌==◌, codes, sym, ap, ◌∙◌}
use Rattle.std.proofs.lemmas.Str.{chars-nil}
use Rattle.std.specs.Str.{chars}
use Rattle.phone_library_text.specs.Letters.{is_alike}
use Rattle.phone_library_text.proofs.Alikes.{not_parameter}
use Rattle.phone_library_text.proofs.labels.is_parameter.Goals as goal

pub returns-in_default : goal.returns-in_default
returns-in_default c =
    sym (ap (λ t. is_alike (chars t) (codes ";ext=")) c.in_default.ensures.cut ∙ ap (λ t. is_alike t (codes ";ext=")) chars-nil)

pub returns-then-not-starts_parameter : goal.returns-then-not-starts_parameter
returns-then-not-starts_parameter c =
    sym (ap (λ t. is_alike t (codes ";ext=")) c.in-Some.ensures.read
    ∙ not_parameter c.in-Some.c _ (ap (λ f. f == 59) (sym c.fold.ensures) ∙ sym c.starts_parameter.ensures ∙ c.if-not-starts_parameter.true))
