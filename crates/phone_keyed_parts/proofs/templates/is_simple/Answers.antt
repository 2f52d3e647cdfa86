use Rattle.std.proofs.Common.{chars, false, not, ◌&&◌, ap, sym, ◌∙◌}
use Rattle.std.proofs.lemmas.Str.{chars-nil}
use Rattle.phone_keyed_parts.specs.Templates.{is_simple}
use Rattle.phone_keyed_parts.proofs.templates.is_simple.Goals as goal

pub returns-then-seen : goal.returns-then-seen
returns-then-seen c =
    let rest = is_simple c.loop-c.is_open c.loop-c.seen in
    sym (c.loop-c.invariant.1 ∙ ap (λ t. rest (chars t)) c.in_default.ensures.cut ∙ ap rest chars-nil ∙ ap (λ s. s && not c.loop-c.is_open) c.if-seen.true)

pub returns-else-seen : goal.returns-else-seen
returns-else-seen c =
    let rest = is_simple c.loop-c.is_open c.loop-c.seen in
    c.if-seen.false
    ∙ sym (c.loop-c.invariant.1 ∙ ap (λ t. rest (chars t)) c.in_default.ensures.cut ∙ ap rest chars-nil ∙ ap (λ s. s && not c.loop-c.is_open) c.if-seen.false)
