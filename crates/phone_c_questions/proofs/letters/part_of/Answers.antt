use Rattle.phone_c_questions.proofs.Extracts.{part_none, part_some}
use Rattle.phone_c_questions.proofs.letters.part_of.Goals as goal

pub returns-in-Some : goal.returns-in-Some
returns-in-Some c = part_some c.args.text.now c.extract.result c.in-Some.core c.in-Some.is c.extract.ensures.core

pub returns-in-None : goal.returns-in-None
returns-in-None c = part_none c.args.text.now c.extract.result c.in-None.is c.extract.ensures.core
