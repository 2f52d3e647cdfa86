use Rattle.std.proofs.Common.{rules, ap, sym, ◌∙◌}
use Rattle.std.specs.Option.{option_and_then}
use Rattle.std.specs.Str.{chars}
use Rattle.phone_find.specs.Walks.{after_signs}
use Rattle.phone_find.proofs.walks.after_signs.Goals as goal

pub loop-sign-preserved : goal.loop-sign-preserved
loop-sign-preserved c = (
  search rules,
  search rules,
  c.loop-sign.invariant.2 ∙ rw c.in-Some.ensures.read
      (ap (λ o. option_and_then (after_signs (chars c.in-Some.others.now)) o)
      (sym c.in_ok-after.ensures)),
)
