use Rattle.phone_lines.proofs.AnswerLemmas.{some_report}
use Rattle.phone_lines.proofs.laws.some_report.Goals as goal

pub returns : goal.returns
returns g c = some_report (g.A.Answers.gives c.args.answers.now)
