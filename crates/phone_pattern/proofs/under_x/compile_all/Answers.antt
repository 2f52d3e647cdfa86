use Rattle.std.proofs.Common.{◌∷◌, [], subst, rules}
use Rattle.phone_pattern.specs.Refusals.{IsPatternRefusal}
use Rattle.phone_pattern.proofs.Refused.{ArePatterns, refused_at}
use Rattle.phone_pattern.proofs.under_x.compile_all.Goals as goal

pub returns-in_err-compile-clause-refused : goal.returns-in_err-compile-clause-refused
returns-in_err-compile-clause-refused c =
    let text = c.text-item.result in
    let e = c.in_err-compile.field-0.0 in
    let own = subst (λ t. IsPatternRefusal (t ∷ []) e) c.in_ok-clone.ensures c.in_err-compile.ensures.refused in
    let before = subst ArePatterns c.loop-text.invariant.0 c.loop-text.invariant.2 in
    let h = refused_at c.args.texts.now c.loop-text.text-index text e c.loop-text-test.true c.text-item.is before own in
    search (rules, h)
