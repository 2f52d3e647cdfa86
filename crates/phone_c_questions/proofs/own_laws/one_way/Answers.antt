use Rattle.phone_c_questions.proofs.OneWays
use Rattle.phone_c_questions.proofs.own_laws.one_way.Goals as goal

pub returns-clause-lettered : goal.returns-clause-lettered
returns-clause-lettered c db = OneWays.one_lettered db

pub returns-clause-dialled : goal.returns-clause-dialled
returns-clause-dialled c db = OneWays.one_dialled db
