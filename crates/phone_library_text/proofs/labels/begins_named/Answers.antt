use Rattle.std.proofs.Common.{sym, ap, ◌∙◌}
use Rattle.std.proofs.lemmas.Str.{chars-nil}
use Rattle.std.specs.Str.{chars}
use Rattle.phone_chars.specs.Characters.{is_one_of}
use Rattle.phone_library_text.specs.Scans.{is_named, label_starts}
use Rattle.phone_library_text.proofs.Searches.{not_named, nothing_named}
use Rattle.phone_library_text.proofs.labels.begins_named.Goals as goal

pub returns-in_default : goal.returns-in_default
returns-in_default c =
    sym (ap (λ t. is_named c.args.allowed (chars t)) c.in_default.ensures.cut ∙ ap (is_named c.args.allowed) chars-nil ∙ nothing_named c.args.allowed)

pub returns-then-not-starts_label : goal.returns-then-not-starts_label
returns-then-not-starts_label c =
    sym (ap (is_named c.args.allowed) c.in-Some.ensures.read
    ∙ not_named c.args.allowed c.in-Some.c _ (ap (is_one_of label_starts) (sym c.fold-folding.ensures) ∙ sym c.starts_label.ensures ∙ c.if-not-starts_label.true))
