use Rattle.std.proofs.Common.{rules, ◌≡◌, ◌∷◌, [], ◌++◌, true, false, IfOk, append_assoc, refl, ap, sym, subst, ◌∙◌}
use Rattle.phone_short.specs.Emergencies.{begins_with_emergency, is_emergency_number}
use Rattle.phone_short.proofs.Fronts.{after_digit, later, later_more, later_none, later_seen}
use Rattle.phone_short.proofs.emergency.begins_with_emergency.Goals as goal

pub loop-after-init : goal.loop-after-init
loop-after-init c = (search rules, c.requires, ([], refl, refl))

pub returns-then-branch : goal.returns-then-branch
returns-then-branch c =
    let p = is_emergency_number c.args.m.now in
    let i = c.loop-after.invariant.2 in
    let front = c.before-in-Some.ensures.before i.0 i.1 in
    let seen : p i.0 ≡ true = ap p (sym front) ∙ sym c.in_ok-is_emergency_number.ensures ∙ c.if-branch.true in
    let cut = after_digit c.loop-after.rest.now c.in-Some.after.now c.in-Some.field-0-0 c.loop-after.invariant.1 c.in-Some.ensures.cut c.in-Some.ensures.read in
    sym (i.2 ∙ ap (later p i.0) cut.0 ∙ later_seen p i.0 c.in-Some.field-0-0 c.in-Some.after.now seen)

pub loop-after-preserved : goal.loop-after-preserved
loop-after-preserved c =
    let p = is_emergency_number c.args.m.now in
    let i = c.loop-after.invariant.2 in
    let d = c.in-Some.field-0-0 in
    let after = c.in-Some.after.now in
    let front = c.before-in-Some.ensures.before i.0 i.1 in
    let seen : p i.0 ≡ false = ap p (sym front) ∙ sym c.in_ok-is_emergency_number.ensures ∙ c.if-branch.false in
    let cut = after_digit c.loop-after.rest.now after d c.loop-after.invariant.1 c.in-Some.ensures.cut c.in-Some.ensures.read in (
      search rules,
      cut.1,
      (
        i.0 ++ d ∷ [],
        i.1 ∙ ap (λ t. i.0 ++ t) cut.0 ∙ sym (append_assoc i.0 (d ∷ []) after),
        i.2 ∙ ap (later p i.0) cut.0 ∙ later_more p i.0 d after seen,
      ),
    )

pub returns : goal.returns
returns c =
    let p = is_emergency_number c.args.m.now in
    let i = c.loop-after.invariant.2 in
    let none = c.in_default.ensures.cut in
    let same : p c.args.digits.now ≡ begins_with_emergency c.args.m.now c.args.digits.now =
    ap p (i.1 ∙ ap (λ t. i.0 ++ t) none) ∙ sym (later_none p i.0) ∙ ap (later p i.0) (sym none) ∙ sym i.2 in
    subst (λ b. IfOk c.is_emergency_number-2.result (λ x. x ≡ b)) same c.is_emergency_number-2.ensures
