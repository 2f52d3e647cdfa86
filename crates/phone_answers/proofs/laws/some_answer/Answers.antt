use Rattle.std.proofs.Common.{chars, subst}
use Rattle.phone_engine.specs.Readings.{ReadsBy}
use Rattle.phone_answers.specs.Answers.IsFieldAnswer.{no_text}
use Rattle.phone_answers.proofs.SomeAnswers.{answer_of_reading}
use Rattle.phone_answers.proofs.laws.some_answer.Goals as goal

pub returns-in-Ok : goal.returns-in-Ok
returns-in-Ok c rules db short hint =
    let r = c.some_reading.ensures rules db hint in
    answer_of_reading rules db hint c.args.field.now short c.in-Ok.ensures.cases.1 r.0
    (subst (λ t. ReadsBy rules db hint (chars t) r.0) c.in-Ok.ensures.cases.0 r.1)

pub returns-in_default : goal.returns-in_default
returns-in_default c rules db short hint = (_, _, no_text c.in_default.ensures.cases.0)
