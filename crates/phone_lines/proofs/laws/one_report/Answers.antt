use Rattle.phone_lines.proofs.AnswerLemmas.{same_report}
use Rattle.phone_lines.proofs.laws.one_report.Goals as goal

pub returns : goal.returns
returns g c = same_report (g.A.Answers.gives c.args.answers.now)
