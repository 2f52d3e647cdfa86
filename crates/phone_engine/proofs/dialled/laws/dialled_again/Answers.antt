use Rattle.phone_engine.proofs.DialledAgain.{inside_again, plus_again, prefix_again}
use Rattle.phone_engine.proofs.dialled.laws.dialled_again.Goals as goal

pub returns-clause-prefix : goal.returns-clause-prefix
returns-clause-prefix c db region n text dialled pre e few =
    prefix_again db region n dialled text pre e few

pub returns-clause-plus : goal.returns-clause-plus
returns-clause-plus c db region n text dialled none e =
    plus_again db region n dialled text none e

pub returns-clause-inside : goal.returns-clause-inside
returns-clause-inside c db region from n text hinted plain e =
    inside_again db region from n text hinted plain e
