use Rattle.std.proofs.Common.{ℕ, List, chars, ap, sym, ◌∙◌}
use Rattle.std.proofs.lemmas.Str.{chars-nil}
use Rattle.phone_dialling.specs.Kept.{from_first}
use Rattle.phone_dialling.proofs.kept.from_first.Goals as goal

pub returns : goal.returns
returns c =
    let front = c.args.front.now in
    sym (c.loop-after.invariant.1 ∙ ap (λ (t : List ℕ). from_first front (chars t)) c.in_default.ensures.cut ∙ ap (from_first front) chars-nil)
