use Rattle.phone_answers.proofs.OneAnswers.{one_line_object, one_object_line}
use Rattle.phone_answers.proofs.laws.one_object.Goals as goal

pub returns-clause-object : goal.returns-clause-object
returns-clause-object c = one_line_object

pub returns-clause-text : goal.returns-clause-text
returns-clause-text c = one_object_line
