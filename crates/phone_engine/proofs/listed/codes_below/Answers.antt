use Rattle.std.proofs.Common.{◌∙◌, ◌++◌, ◌∷◌, [], sym, ap}
use Rattle.phone_engine.proofs.CodesBelow.{none, with_listed, without_listed}
use Rattle.phone_engine.proofs.listed.codes_below.Goals as goal
use Rattle.phone_engine.proofs.listed.codes_below.Goals.{then-is_listed+in_ok-push, else-is_listed}

pub loop-n-init : goal.loop-n-init
loop-n-init c = c.new-found.ensures.items ∙ sym (none c.args.database.now)

pub loop-n-preserved : goal.loop-n-preserved
loop-n-preserved c =
    let db = c.args.database.now in
    let n = c.loop-n.n in
    elim c.if-is_listed.branch [ then-is_listed+in_ok-push w ↦ ap (λ v. v.items) w.found-is ∙ (w.in_ok-push.ensures.items ∙ (ap (λ xs. xs ++ n ∷ []) c.loop-n.invariant ∙ sym (with_listed db n (sym c.is_listed.ensures ∙ w.if-is_listed.true)))) | else-is_listed w ↦ ap (λ v. v.items) w.found-is ∙ (c.loop-n.invariant ∙ sym (without_listed db n (sym c.is_listed.ensures ∙ w.if-is_listed.false))) ]
