use Rattle.std.proofs.Common.{option_map, subst}
use Rattle.std.proofs.lemmas.Result.{IfOk-weaker}
use Rattle.phone_answers.specs.Answers.{IsFieldAnswer, IsTextAnswer}
use Rattle.phone_answers.specs.Answers.IsFieldAnswer.{no_text, of_text}
use Rattle.phone_answers.specs.Spelled.{number_in, spelled}
use Rattle.phone_answers.proofs.answer.answer_to.Goals as goal

pub returns-in-Ok-clause-answer : goal.returns-in-Ok-clause-answer
returns-in-Ok-clause-answer c =
    let by = c.args.engine.rules in
    let db = c.args.engine.database.now in
    let short = option_map (λ d. d.now) c.args.short in
    let hint = c.args.engine.hint in
    IfOk-weaker c.answer_to_text.result (λ a. IsTextAnswer by db short hint c.in-Ok.text.now (number_in a) (spelled a))
    (λ a. IsFieldAnswer by db short hint c.args.field.now (number_in a) (spelled a))
    (λ a is. of_text (number_in a) (spelled a) c.in-Ok.ensures.cases.1
    (subst (λ t. IsTextAnswer by db short hint t (number_in a) (spelled a)) c.in-Ok.ensures.cases.0 is))
    c.answer_to_text.ensures.answer

pub returns-in-Err-clause-answer : goal.returns-in-Err-clause-answer
returns-in-Err-clause-answer c = no_text c.in-Err.ensures.cases.0
