use Rattle.std.proofs.Common.{option_copied, false, ap, sym, ◌∙◌}
use Rattle.std.specs.Option.{option_map_or}
use Rattle.phone_keyed_parts.specs.Layouts.{has_keys, past_key}
use Rattle.phone_keyed_parts.proofs.Keys.{has_keys-past}
use Rattle.phone_keyed_parts.proofs.layouts.has_keys.Goals as goal

pub loop-byte-preserved : goal.loop-byte-preserved
loop-byte-preserved c =
    c.loop-byte.invariant
    ∙ ap (λ t. has_keys t c.loop-byte.left.now) c.in-Some.ensures.cases.0
    ∙ has_keys-past c.in-Some.byte.now c.in-Some.after.now c.loop-byte.left.now
    ∙ ap (λ o. option_map_or (has_keys c.in-Some.after.now) o false) (sym c.past_key.ensures ∙ ap option_copied c.in-Some-past_key.is)
