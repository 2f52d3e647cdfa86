use Rattle.phone_lines.proofs.Beginnings.{TakesA-begins}
use Rattle.phone_lines.proofs.laws.begins_each_report.Goals as goal

pub returns : goal.returns
returns g c one = TakesA-begins (g.A.Answers.gives c.args.answers.now) one
