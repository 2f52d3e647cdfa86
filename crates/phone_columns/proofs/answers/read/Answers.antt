use Rattle.std.proofs.Common.{◌≡◌, ⊎_elim, Err, chars, refl, sym, subst}
use Rattle.std.proofs.lemmas.Result.{IfErr-at_err, IfOk-from_err, IfOk-weaker}
use Rattle.phone_engine.proofs.OneReading.{number_reads}
use Rattle.phone_engine.specs.Readings.{ReadsBy}
use Rattle.phone_columns.specs.Rows.{IsReadAs}
use Rattle.phone_columns.specs.Rows.IsReadAs.{not_utf8, number, refused}
use Rattle.phone_columns.proofs.answers.read.Goals as goal

pub returns-in_default : goal.returns-in_default
returns-in_default c = not_utf8 c.in_default.ensures.cases.0

pub returns-in-Ok-parse : goal.returns-in-Ok-parse
returns-in-Ok-parse c =
    let by = c.args.engine.rules in
    let db = c.args.engine.database.now in
    let hint = c.args.engine.hint in
    number c.in-Ok-parse.number c.in-Ok.ensures.cases.1 (number_reads by db hint c.in-Ok.ensures.cases.0 c.in-Ok-parse.ensures)

pub returns-in-Err : goal.returns-in-Err
returns-in-Err c =
    let by = c.args.engine.rules in
    let db = c.args.engine.database.now in
    let hint = c.args.engine.hint in
    let is = IsReadAs by db hint c.args.text.now in
    let e = c.in-Err.error in
    ⊎_elim
    (λ m. IfOk-from_err c.refusal.result is (c.refusal.ensures.memory (IfErr-at_err (λ x. e ≡ x) m refl)))
    (λ r. IfOk-weaker c.refusal.result _ is
    (λ a same. subst is (sym same)
    (refused e c.in-Ok.ensures.cases.1 (subst (λ t. ReadsBy by db hint (chars t) (Err e)) c.in-Ok.ensures.cases.0 r)))
    c.refusal.ensures.refused)
    c.in-Err.ensures
