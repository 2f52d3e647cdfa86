use Rattle.phone_lines.proofs.AnswerLemmas.{same_lines, some_lines}
use Rattle.phone_lines.proofs.laws.lines.Goals as goal

pub returns-clause-some : goal.returns-clause-some
returns-clause-some c = some_lines

pub returns-clause-one : goal.returns-clause-one
returns-clause-one c = same_lines
