use Rattle.std.proofs.Common.{chars, string_bytes, ap, ap₂, sym, ◌∙◌}
use Rattle.std.proofs.lemmas.Str.{chars-nil}
use Rattle.phone_keyed_parts.specs.Templates.{begun}
use Rattle.phone_keyed_parts.proofs.templates.begun.Goals as goal

pub returns-in_default-split_first : goal.returns-in_default-split_first
returns-in_default-split_first c =
    let shown = begun (string_bytes c.loop-digit.shown) in
    sym (c.loop-digit.invariant.2 ∙ ap₂ shown (ap chars c.in_default-split_first.ensures.cut ∙ chars-nil) c.in-Some.ensures.read)

pub returns : goal.returns
returns c =
    let shown = begun (string_bytes c.loop-digit.shown) (chars c.loop-digit.rest.now) in
    sym (c.loop-digit.invariant.2 ∙ ap shown (ap chars c.in_default.ensures.cut ∙ chars-nil))
