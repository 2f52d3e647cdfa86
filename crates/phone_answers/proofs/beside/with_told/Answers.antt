use Rattle.std.proofs.Common.{◌≡◌, ◌+◌, ◌∷◌, [], length, drop, drop-cons, add-one, ap, ap₂, sym, subst, ◌∙◌, arith}
use Rattle.std.proofs.Math.Seq.{drop-length}
use Rattle.serde_json.specs.View.{members_view}
use Rattle.phone_answers.specs.Extras.{AreTold}
use Rattle.phone_answers.specs.Extras.AreTold.{none}
use Rattle.phone_answers.specs.Objects.{with_told}
use Rattle.phone_answers.specs.Spelled.{number_in}
use Rattle.phone_answers.proofs.BesideLemmas.{CompletesMembers, one_more_member}
use Rattle.phone_answers.proofs.beside.with_told.Goals as goal

pub columns-preserved : goal.columns-preserved
columns-preserved c =
    let rules = c.args.engine.rules in
    let db = c.args.engine.database.now in
    let under = c.args.subject.under in
    let read = c.args.subject.field.now in
    let number = number_in c.args.subject.answer.now in
    let extra = c.args.extra.now in
    let first = members_view c.args.members.entries in
    let at = c.columns.column-index in
    let column = c.column-item.result in
    let before = members_view c.columns.members.entries in
    let split : drop at extra ≡ column ∷ drop (at + 1) extra =
    drop-cons extra at column c.columns-test.true ∙ ap₂ (λ x n. x ∷ drop n extra) (sym c.column-item.is) (sym (add-one at)) in
    let told = c.in_ok-members.ensures in
    one_more_member rules db under read number extra first column (drop (at + 1) extra) before _ told.0
    (subst (λ left. CompletesMembers rules db under read number extra first left before) split c.columns.invariant)
    told.1 told.2

pub returns : goal.returns
returns c =
    let extra = c.args.extra.now in
    let at : c.columns.column-index ≡ length extra = omega (arith, c.columns-test.false, c.columns.auto.column-index-end) in
    let left : drop c.columns.column-index extra ≡ [] = ap (λ n. drop n extra) at ∙ drop-length extra in
    let x = c.columns.invariant [] (subst (λ l. AreTold c.args.engine.rules c.args.engine.database.now c.args.subject.under c.args.subject.field.now (number_in c.args.subject.answer.now) l []) (sym left) none) in
    (x.0, x.1, sym (ap (λ l. with_told l [] (members_view c.columns.members.entries)) left) ∙ x.2)
