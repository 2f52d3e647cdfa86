use Rattle.phone_answers.proofs.SomeAnswers.{object_of_answer}
use Rattle.phone_answers.proofs.laws.some_object.Goals as goal

pub returns : goal.returns
returns c rules db short columns hint place others =
    let a = c.some_answer.ensures rules db short hint in
    object_of_answer rules db short columns hint place c.args.line.now a.0 a.1 others a.2
