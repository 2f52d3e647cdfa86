use Rattle.std.proofs.Common.{IfOk, Option, subst}
use Rattle.std.specs.Cow.{cow_str_bytes}
use Rattle.phone_answers.specs.Extras.{IsToldBeside}
use Rattle.phone_answers.specs.Spelled.{number_in}
use Rattle.phone_answers.specs.declared.split.Shown.{Shown}
use Rattle.phone_answers.specs.declared.split.Which.{Which}
use Rattle.phone_answers.proofs.extra.told_beside.Goals as goal

pub returns-in-Some : goal.returns-in-Some
returns-in-Some c =
    let engine = c.args.engine in
    let subject = c.args.subject in
    subst (λ (s : Option (Which × Shown)). IfOk c.told_of_split.result (λ text. IsToldBeside s engine.rules engine.database.now subject.under subject.field.now
    (number_in subject.answer.now) c.args.column.now (cow_str_bytes text))) c.in-Some.ensures c.told_of_split.ensures

pub returns-in-None : goal.returns-in-None
returns-in-None c =
    let engine = c.args.engine in
    let subject = c.args.subject in
    subst (λ (s : Option (Which × Shown)). IfOk c.told_of_number.result (λ text. IsToldBeside s engine.rules engine.database.now subject.under subject.field.now
    (number_in subject.answer.now) c.args.column.now (cow_str_bytes text))) c.in-None.ensures c.told_of_number.ensures
