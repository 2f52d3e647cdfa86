use Rattle.std.proofs.Common.{◌≡◌, ◌+◌, ◌++◌, ◌∷◌, [], length, drop, drop-cons, add-one, ap, ap₂, sym, subst, ◌∙◌, arith}
use Rattle.std.proofs.Math.Seq.{drop-length}
use Rattle.std.proofs.lemmas.List.{append-nil}
use Rattle.std.specs.Cow.{cow_str_bytes}
use Rattle.csv.specs.Records.{fields_of}
use Rattle.phone_answers.specs.Extras.{AreTold}
use Rattle.phone_answers.specs.Extras.AreTold.{none}
use Rattle.phone_answers.specs.Spelled.{number_in}
use Rattle.phone_answers.proofs.ExtraLemmas.{Completes, one_more}
use Rattle.phone_answers.proofs.extra.push_told.Goals as goal

pub columns-preserved : goal.columns-preserved
columns-preserved c =
    let rules = c.args.engine.rules in
    let db = c.args.engine.database.now in
    let under = c.args.subject.under in
    let read = c.args.subject.field.now in
    let number = number_in c.args.subject.answer.now in
    let extra = c.args.extra.now in
    let old = fields_of c.args.fields.now in
    let at = c.columns.column-index in
    let column = c.column-item.result in
    let fields = fields_of c.columns.fields in
    let split : drop at extra ≡ column ∷ drop (at + 1) extra =
    drop-cons extra at column c.columns-test.true ∙ ap₂ (λ x n. x ∷ drop n extra) (sym c.column-item.is) (sym (add-one at)) in
    record {
      told = one_more rules db under read number extra old column (drop (at + 1) extra) fields (fields_of c.push_field.new.self) (cow_str_bytes c.in_ok-text.text)
          (subst (λ left. Completes rules db under read number extra old left fields) split c.columns.invariant.told)
          c.in_ok-text.ensures
          (c.in_ok-push_field.ensures.fields ∙ ap₂ (λ p w. fields ++ (p ++ w) ∷ []) c.columns.invariant.partial (c.as_bytes.ensures.value ∙ c.as_str.ensures.value));
      partial = c.in_ok-push_field.ensures.partial;
    }

pub returns-clause-told : goal.returns-clause-told
returns-clause-told c =
    let extra = c.args.extra.now in
    let at : c.columns.column-index ≡ length extra = omega (arith, c.columns-test.false, c.columns.auto.column-index-end) in
    let left : drop c.columns.column-index extra ≡ [] = ap (λ n. drop n extra) at ∙ drop-length extra in
    let x = c.columns.invariant.told [] (subst (λ l. AreTold c.args.engine.rules c.args.engine.database.now c.args.subject.under c.args.subject.field.now (number_in c.args.subject.answer.now) l []) (sym left) none) in
    (x.0, x.1, sym (append-nil (fields_of c.columns.fields)) ∙ x.2)
