use Rattle.std.proofs.Common.{◌==◌, length, eqb-true, true≢false, ap, sym, ◌∙◌}
use Rattle.std.proofs.lemmas.List.{nil_from_length}
use Rattle.std.proofs.lemmas.Str.{chars-nil}
use Rattle.std.specs.Str.{chars}
use Rattle.phone_parts.proofs.Cores.{nil_from_chars}
use Rattle.phone_library_text.proofs.places.is_nothing.Goals as goal

pub returns-clause-nothing : goal.returns-clause-nothing
returns-clause-nothing c = λ e. ap chars (nil_from_length _ (eqb-true _ _ (sym c.is_empty.ensures ∙ e))) ∙ chars-nil

pub returns-clause-something : goal.returns-clause-something
returns-clause-something c = λ f e. true≢false (ap (λ t. length t == 0) (sym (nil_from_chars _ c.utf8.text e)) ∙ sym c.is_empty.ensures ∙ f)
