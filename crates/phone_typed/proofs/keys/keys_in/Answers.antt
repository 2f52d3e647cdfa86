use Rattle.std.proofs.Common.{chars, string_bytes, ap, sym, ◌∙◌}
use Rattle.std.proofs.lemmas.Str.{chars-nil}
use Rattle.phone_typed.specs.Keys.{with_keys}
use Rattle.phone_typed.proofs.keys.keys_in.Goals as goal

pub returns : goal.returns
returns c =
    let keys = string_bytes c.loop-c.keys in
    sym (c.loop-c.invariant.1 ∙ ap (λ t. with_keys keys (chars t)) c.in_default.ensures.cut ∙ ap (with_keys keys) chars-nil)
