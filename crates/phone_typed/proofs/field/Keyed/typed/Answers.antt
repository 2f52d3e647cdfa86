use Rattle.std.proofs.Common.{ℕ, List, chars, ap, sym, ◌∙◌}
use Rattle.std.proofs.lemmas.Str.{chars-nil}
use Rattle.phone_typed.specs.Steps.{typed_all}
use Rattle.phone_typed.proofs.field.Keyed.typed.Goals as goal

pub returns : goal.returns
returns c =
    let then = λ (cs : List ℕ). typed_all cs c.loop-c.field in
    sym (c.loop-c.invariant.1 ∙ ap (λ (t : List ℕ). then (chars t)) c.in_default.ensures.cut ∙ ap then chars-nil)
