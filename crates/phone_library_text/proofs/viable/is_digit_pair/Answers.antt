use Rattle.std.proofs.Common.{◌∷◌, sym, ap, ◌∙◌}
use Rattle.std.proofs.lemmas.Str.{chars-nil}
use Rattle.std.specs.Str.{chars}
use Rattle.phone_library_text.specs.Scans.{is_two_digits}
use Rattle.phone_library_text.proofs.viable.is_digit_pair.Goals as goal

pub returns-in_default : goal.returns-in_default
returns-in_default c = sym (ap (λ t. is_two_digits (chars t)) c.in_default.ensures.cut ∙ ap is_two_digits chars-nil)

pub returns-in_default-split_first : goal.returns-in_default-split_first
returns-in_default-split_first c =
    sym (ap is_two_digits (c.in-Some.ensures.read ∙ ap (λ r. c.in-Some.first ∷ r) (ap chars c.in_default-split_first.ensures.cut ∙ chars-nil)))
